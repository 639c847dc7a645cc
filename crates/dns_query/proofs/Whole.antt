-- A message with one question, and with nothing else or an OPT.
use Rattle.std.proofs.Common.{◌≡◌, ℕ, ◌+◌, ◌/◌, ◌%◌, ◌<◌, ◌≤◌, List, [], ◌∷◌, length, get_or, refl, sym, ap, subst, ◌∙◌, arith, Some, None}
use Rattle.std.specs.Prelude.{Option, ◌==◌, slice_get}
use Rattle.std.proofs.lemmas.Option.{slice_get-get_or, get_or_from_slice_get, same_Some}
use Rattle.dns_name.specs.NameInMessage.{NameAt, StandsAt}
use Rattle.dns_name.proofs.Wire.{IsName-nil}
use Rattle.dns_name.proofs.Stands.{StandsAt-one}
use Rattle.dns_wire.specs.declared.header.Header.{Header}
use Rattle.dns_wire.specs.declared.record.Record.{Record}
use Rattle.dns_wire.specs.declared.edns.Edns.{Edns}
use Rattle.dns_wire.specs.declared.rdata.Data.TheVariants.{Opaque}
use Rattle.dns_wire.specs.Header.{header_of}
use Rattle.dns_wire.specs.Standing.{word_at, long_at, between, RecordAt}
use Rattle.dns_wire.specs.Messages.{Splits, ExtraAt, MessageAt}
use Rattle.dns_wire.proofs.Extra.{opt_yes, Splits-opt}
use Rattle.dns_query.specs.declared.query.Query.{Query}
use Rattle.dns_query.specs.Query.{SpelledAt, HasPlainForm, OptAt, BesideAt, IsPlainQuery, message_of}
use Rattle.dns_query.proofs.Walked.{spelled_stands, spelled_one}

-- an OPT alone
opt_at : (m : List ℕ) (at size : ℕ) → Record
opt_at m at size = record {
  name = [];
  rtype = 41;
  class = word_at m (at + 3);
  ttl = long_at m (at + 5);
  rdata = Opaque (between m (at + 1 + 10) (at + 1 + 10 + size));
}

root_stands : (m : List ℕ) (at : ℕ) → slice_get m at ≡ Some 0 → StandsAt m at [] (at + 1)
root_stands m at root = record { name = IsName-nil; stands = NameAt.ends root }

opt_stands : (m : List ℕ) (at size : ℕ) → at + 11 + size ≤ length m → slice_get m at ≡ Some 0 → word_at m (at + 1) ≡ 41 → size ≡ word_at m (at + 9) → RecordAt m at (opt_at m at size) (at + 1 + 10 + size)
unfolding opt_at
opt_stands m at size room root kind is = record {
  end = at + 1;
  name = root_stands m at root;
  head = omega arith;
  rtype = sym kind;
  class = ap (word_at m) (omega arith);
  ttl = ap (long_at m) (omega arith);
  after = ap (λ n. at + 1 + 10 + n) (is ∙ ap (word_at m) (omega arith));
  within = omega arith;
  «data» = refl;
}

pub opt_read : (m : List ℕ) (at size ttl payload : ℕ) → at + 11 + size ≤ length m → get_or m at 0 ≡ 0 → word_at m (at + 1) ≡ 41 → size ≡ word_at m (at + 9) → ttl ≡ long_at m (at + 5) → payload ≡ word_at m (at + 3)
    → OptAt m at (record { payload = payload; extended = ttl / 16777216 % 256; version = ttl / 65536 % 256; dnssec_ok = ttl / 32768 % 2 == 1 })
unfolding opt_at
opt_read m at size ttl payload room zero_ kind is t p =
    let root : slice_get m at ≡ Some 0 = slice_get-get_or m at 0 (omega arith) ∙ ap Some zero_ in
    record {
      root = root;
      opt = opt_at m at size;
      end = at + 1 + 10 + size;
      stands = opt_stands m at size room root kind is;
      kind = refl;
      says = rw (t, p) refl;
    }

-- what stands where an OPT does
pub record OptFacts (m : List ℕ) (at : ℕ) : Type 0 where
  pub room : at + 11 ≤ length m
  pub root : get_or m at 0 ≡ 0
  pub kind : word_at m (at + 1) ≡ 41
  pub whole : at + 11 + word_at m (at + 9) ≤ length m

pub opt_facts : (m : List ℕ) (at : ℕ) (edns : Edns) → OptAt m at edns → OptFacts m at
opt_facts m at edns o =
    let end : at + 1 ≡ o.stands.end = (StandsAt-one m at (at + 1) o.stands.end [] o.opt.name (root_stands m at o.root) o.stands.name).1 in
    let place : o.stands.end + 8 ≡ at + 9 = omega (arith, end) in
    record {
      room = omega (arith, end, o.stands.head);
      root = get_or_from_slice_get m at 0 0 o.root;
      kind = ap (word_at m) end ∙ sym o.stands.rtype ∙ o.kind;
      whole = omega (arith, end, o.stands.within, o.stands.after, ap (word_at m) place);
    }

-- the additional section of a query
no_record : Splits [] [] None
no_record = record { rest = refl; opt = tt }

extra_at : (m : List ℕ) (i n : ℕ) (edns : Option Edns) → BesideAt m i n edns → (j : ℕ) × ExtraAt m i n ([], edns) j
extra_at m i n None b = (i, ([], record { stand = refl; obey = ([], None, no_record); count = sym b }, no_record))
extra_at m i n (Some e) b =
    let o = b.1 in
    let root : o.opt.name ≡ [] = sym ((StandsAt-one m i (i + 1) o.stands.end [] o.opt.name (root_stands m i o.root) o.stands.name).0) in
    let splits : Splits (o.opt ∷ []) [] (Some e) = Splits-opt o.opt e no_record (opt_yes o.opt o.kind) root o.says in
    (o.end, (o.opt ∷ [], record { stand = (o.end, o.stands, refl); obey = ([], Some e, splits); count = sym b.0 }, splits))

-- a query that is read in place is a message
pub plain_message : (m : List ℕ) (q : Query) → IsPlainQuery m q → MessageAt m (message_of q)
plain_message m q p =
    let extra = extra_at m (p.end + 4) q.header.additional q.edns p.beside in
    record {
      header = p.header;
      i = p.end + 4;
      j = p.end + 4;
      k = p.end + 4;
      end = extra.0;
      questions = record { stand = (p.end + 4, record { end = p.end; name = spelled_stands m 12 p.end q.name p.name; within = p.within; qtype = p.qtype; qclass = p.qclass; after = refl }, refl); obey = tt; count = sym p.form.questions };
      answers = record { stand = refl; obey = tt; count = sym p.form.answers };
      authority = record { stand = refl; obey = tt; count = sym p.form.authority };
      additional = extra.1;
    }

-- what was read is a query of this form
pub plain_of : (m : List ℕ) (h : Header) (end : ℕ) (labels : List (List ℕ)) (qtype qclass : ℕ) (edns : Option Edns) → header_of m ≡ Some h → HasPlainForm h → SpelledAt m 12 labels end → end + 4 ≤ length m → qtype ≡ word_at m end → qclass ≡ word_at m (end + 2) → BesideAt m (end + 4) h.additional edns
    → IsPlainQuery m (record { header = h; name = labels; qtype = qtype; qclass = qclass; edns = edns })
plain_of m h end labels qtype qclass edns head form name within t c beside = record { header = head; form = form; end = end; name = name; within = within; qtype = t; qclass = c; beside = beside }

-- an additional section that has more than one record, or one that is no OPT of the root
pub beside_not : (m : List ℕ) (i n : ℕ) → (n ≡ 0 → ⊥) → ((edns : Edns) → OptAt m i edns → ⊥) → (edns : Option Edns) → BesideAt m i n edns → ⊥
beside_not m i n some no_opt None b = some b
beside_not m i n some no_opt (Some e) b = no_opt e b.1

-- its question ends where the name and four bytes do
pub no_room : (m : List ℕ) (end : ℕ) (labels : List (List ℕ)) → SpelledAt m 12 labels end → length m < end + 4 → (q : Query) → IsPlainQuery m q → ⊥
no_room m end labels name short q p = omega (arith, spelled_one m 12 end p.end labels q.name name p.name, p.within)

-- and then its additional section follows
pub no_beside : (m : List ℕ) (h : Header) (end : ℕ) (labels : List (List ℕ)) → header_of m ≡ Some h → SpelledAt m 12 labels end → ((edns : Option Edns) → BesideAt m (end + 4) h.additional edns → ⊥) → (q : Query) → IsPlainQuery m q → ⊥
no_beside m h end labels head name none_ q p =
    let same : q.header ≡ h = same_Some _ _ (sym p.header ∙ head) in
    let place : p.end ≡ end = spelled_one m 12 p.end end q.name labels p.name name in
    none_ q.edns (subst (λ (x : Header). BesideAt m (end + 4) x.additional q.edns) same (subst (λ (x : ℕ). BesideAt m (x + 4) q.header.additional q.edns) place p.beside))
