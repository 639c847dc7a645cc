-- What stands in bytes keeps to what its types keep, so that it reads as itself when it was written.
use Rattle.std.proofs.Common.{ℕ, ◌+◌, ◌-◌, ◌*◌, ◌<◌, ◌≤◌, ◌^◌, List, [], ◌∷◌, get_or, take, drop, sym, subst, arith}
use Rattle.std.specs.List.{AllByRecursion}
use Rattle.std.proofs.lemmas.List.{get_or-take, get_or-drop}
use Rattle.dns_wire.specs.declared.record.Record.{Record}
use Rattle.dns_wire.specs.declared.message.Message.{Message}
use Rattle.dns_wire.specs.declared.rdata.Data.{Data}
use Rattle.dns_wire.specs.declared.rdata.Form.{Form}
use Rattle.dns_wire.specs.declared.rdata.Form.TheVariants as form
use Rattle.dns_wire.specs.Forms.{form_of}
use Rattle.dns_wire.specs.Standing.{RecordAt, FormAt, word_at, long_at, quad_at, wide_at}
use Rattle.dns_wire.specs.Sections.{ItemsAt}
use Rattle.dns_wire.specs.Messages.{MessageAt}
use Rattle.dns_wire.specs.ReadBack.{IsData, ReadsBack}
use Rattle.dns_wire.proofs.Shorts.{DataAt-short}
use Rattle.dns_update.specs.Replay.{AreBytes}
use Rattle.dns_update.proofs.Reading.{form_at}

module _ (m : List ℕ) (bytes : AreBytes m) where
  -- a byte of a part
  byte : (n i k : ℕ) → k < n → get_or (take n (drop i m)) k 0 < 256
  byte n i k h = rw (get_or-take n (drop i m) k 0 h, get_or-drop i m k 0) (bytes (i + k))

  word_small : (i : ℕ) → word_at m i < 2 ^ 16
  word_small i = omega (arith, byte 2 i 0 (omega arith), byte 2 i 1 (omega arith))

  long_small : (i : ℕ) → long_at m i < 2 ^ 32
  long_small i = omega (arith, byte 4 i 0 (omega arith), byte 4 i 1 (omega arith), byte 4 i 2 (omega arith), byte 4 i 3 (omega arith))

  quad_small : (i : ℕ) → quad_at m i < 2 ^ 64
  quad_small i =
      omega (
        arith,
        byte 8 i 0 (omega arith),
        byte 8 i 1 (omega arith),
        byte 8 i 2 (omega arith),
        byte 8 i 3 (omega arith),
        byte 8 i 4 (omega arith),
        byte 8 i 5 (omega arith),
        byte 8 i 6 (omega arith),
        byte 8 i 7 (omega arith),
      )

  wide_small : (i : ℕ) → wide_at m i < 2 ^ 128
  wide_small i = both (quad_at m i) (quad_at m (i + 8)) (quad_small i) (quad_small (i + 8))
    where
      both : (a b : ℕ) → a < 2 ^ 64 → b < 2 ^ 64 → a * 2 ^ 64 + b < 2 ^ 128
      both a b first second = omega (arith, first, second)

  data_small : (f : Form) (i j : ℕ) (d : Data) → FormAt f m i j d → IsData d
  data_small form.A i j d x = subst IsData (sym x.1) (long_small i)
  data_small form.Aaaa i j d x = subst IsData (sym x.1) (wide_small i)
  data_small form.Ns i j d x = subst IsData (sym x.2) x.1.name
  data_small form.Cname i j d x = subst IsData (sym x.2) x.1.name
  data_small form.Ptr i j d x = subst IsData (sym x.2) x.1.name
  data_small form.Mx i j d x = subst IsData (sym x.2) (word_small i, x.1.name)
  data_small form.Srv i j d x = subst IsData (sym x.2) (word_small i, word_small (i + 2), word_small (i + 4), x.1.name)
  data_small form.Soa i j d x =
      subst IsData (sym x.is) (x.first.name, x.second.name, long_small x.end, long_small (x.end + 4), long_small (x.end + 8), long_small (x.end + 12), long_small (x.end + 16))
  data_small form.Txt i j d x = subst IsData (sym x.3) x.1
  data_small form.Opaque i j d x = subst IsData (sym x) tt
  data_small form.Empty i j d x = subst IsData (sym x) tt

  -- a record that stands in bytes reads as itself when it was written
  pub back_at : (i j : ℕ) (r : Record) → RecordAt m i r j → ReadsBack r
  back_at i j r x =
      let size : j - (x.end + 10) ≤ 65535 = omega (arith, word_small (x.end + 8), x.after) in
      record {
        kept = record {
          name = x.name.name;
          rtype = subst (λ (n : ℕ). n < 2 ^ 16) (sym x.rtype) (word_small x.end);
          class = subst (λ (n : ℕ). n < 2 ^ 16) (sym x.class) (word_small (x.end + 2));
          ttl = subst (λ (n : ℕ). n < 2 ^ 32) (sym x.ttl) (long_small (x.end + 4));
          «data» = data_small (form_of r.rtype (j - (x.end + 10))) (x.end + 10) j r.rdata x.«data»;
        };
        form = form_at m i j r x;
        short = DataAt-short m r.rtype (x.end + 10) j r.rdata size x.«data»;
      }

  items_back : (i j : ℕ) (rs : List Record) → ItemsAt (RecordAt m) i rs j → AllByRecursion ReadsBack rs
  items_back i j [] x = tt
  items_back i j (r ∷ rs) x = (back_at i x.0 r x.1, items_back x.0 j rs x.2)

  -- and so do the update records of a message
  pub authority_back : (message : Message) → MessageAt m message → AllByRecursion ReadsBack message.authority
  authority_back message x = items_back x.j x.k message.authority x.authority.stand
