-- A message with a record whose data is too long is too long itself, and one cause alone stands for it.
use Rattle.std.proofs.Common.{◌≡◌, ℕ, ◌+◌, ◌≤◌, ◌<◌, List, [], ◌∷◌, ◌++◌, length, refl, sym, ap, ◌∙◌, arith, length-append}
use Rattle.std.proofs.lemmas.Grind.{flat_map-append}
use Rattle.std.specs.List.{flat_map}
use Rattle.std.specs.Int.{w16, w32, to_be_bytes}
use Rattle.dns_name.specs.Name.{name_bytes}
use Rattle.dns_name.specs.declared.fault.ProtoError.{ProtoError}
use Rattle.dns_name.specs.declared.fault.ProtoError.TheVariants as proto
use Rattle.dns_wire.specs.declared.record.Record.{Record}
use Rattle.dns_wire.specs.declared.message.Message.{Message}
use Rattle.dns_wire.specs.Edns.{opt_records}
use Rattle.dns_wire.specs.Header.{header_bytes}
use Rattle.dns_wire.specs.MessageBytes.{counted, message_bytes, records_of, FirstLong, TellsTooLong}
use Rattle.dns_wire.specs.WireFormat.{data_bytes, record_bytes, records_bytes, questions_bytes, AreShort}

last-part : (a b : List ℕ) → length b ≤ length (a ++ b)
last-part a b = omega (arith, length-append a b)

data-inside : (r : Record) → length (data_bytes r.rdata) ≤ length (record_bytes r)
data-inside r = last-part (name_bytes r.name ++ to_be_bytes w16 r.rtype ++ to_be_bytes w16 r.class ++ to_be_bytes w32 r.ttl ++ to_be_bytes w16 (length (data_bytes r.rdata))) (data_bytes r.rdata)

module _ (f : Record → List ℕ) where
  one-inside : (front : List Record) (one : Record) (rest : List Record) → length (f one) ≤ length (flat_map f (front ++ one ∷ rest))
  one-inside [] one rest = omega (arith, length-append (f one) (flat_map f rest))
  one-inside (r ∷ front) one rest = omega (arith, length-append (f r) (flat_map f (front ++ one ∷ rest)), one-inside front one rest)

  three-inside : (h q : List ℕ) (a b c o : List Record) → length (flat_map f (a ++ (b ++ c))) ≤ length (h ++ (q ++ (flat_map f a ++ (flat_map f b ++ flat_map f (c ++ o)))))
  three-inside h q a b c o =
      let all : length (flat_map f (a ++ (b ++ c))) ≡ length (flat_map f a) + (length (flat_map f b) + length (flat_map f c)) =
      ap length (flat_map-append f a (b ++ c)) ∙ length-append (flat_map f a) (flat_map f (b ++ c))
      ∙ ap (λ (n : ℕ). length (flat_map f a) + n) (ap length (flat_map-append f b c) ∙ length-append (flat_map f b) (flat_map f c)) in
      omega (
        arith,
        all,
        length-append h (q ++ (flat_map f a ++ (flat_map f b ++ flat_map f (c ++ o)))),
        length-append q (flat_map f a ++ (flat_map f b ++ flat_map f (c ++ o))),
        length-append (flat_map f a) (flat_map f b ++ flat_map f (c ++ o)),
        length-append (flat_map f b) (flat_map f (c ++ o)),
        ap length (flat_map-append f c o),
        length-append (flat_map f c) (flat_map f o),
      )

long-inside : (m : Message) (n : ℕ) → FirstLong (records_of m) n → 65535 < length (message_bytes m)
long-inside m n long =
    let all : length (records_bytes (records_of m)) ≤ length (message_bytes m) = three-inside record_bytes (header_bytes (counted m).header) (questions_bytes m.questions) m.answers m.authority m.additional (opt_records m.edns) in
    let one : length (record_bytes long.one) ≤ length (records_bytes (records_of m)) = rw long.is (one-inside record_bytes long.front long.one long.rest) in
    omega (arith, all, one, data-inside long.one, long.size, long.long)

-- what cannot be written is too long
pub tells-long : (m : Message) (e : ProtoError) → TellsTooLong m e → (e ≡ proto.OutOfMemory → ⊥) → 65535 < length (message_bytes m)
tells-long m proto.OutOfMemory tells other = absurd (other refl)
tells-long m (proto.DataTooLong n) tells other = long-inside m n tells
tells-long m (proto.MessageTooLong n) tells other = omega (arith, tells.1, tells.2)
tells-long m (proto.OutsideGrammar at) tells other = absurd tells
tells-long m proto.LabelEmpty tells other = absurd tells
tells-long m proto.LabelLong tells other = absurd tells
tells-long m proto.BadEscape tells other = absurd tells
tells-long m proto.NameLong tells other = absurd tells

head-or : Record → List Record → Record
head-or d [] = d
head-or d (r ∷ rs) = r

tail-of : List Record → List Record
tail-of [] = []
tail-of (r ∷ rs) = rs

-- the first record that is too long is one
same-first : (d : Record) (f g : List Record) (o p : Record) (r s : List Record) → AreShort f → AreShort g → 65535 < length (data_bytes o.rdata) → 65535 < length (data_bytes p.rdata)
    → f ++ o ∷ r ≡ g ++ p ∷ s → o ≡ p
unfolding head-or tail-of
same-first d [] [] o p r s a b long other is = ap (head-or d) is
same-first d [] (x ∷ g) o p r s a b long other is =
    let same : o ≡ x = ap (head-or d) is in
    let size : length (data_bytes o.rdata) ≡ length (data_bytes x.rdata) = ap (λ (z : Record). length (data_bytes z.rdata)) same in
    absurd (omega (arith, size, long, b.0))
same-first d (x ∷ f) [] o p r s a b long other is =
    let same : x ≡ p = ap (head-or d) is in
    let size : length (data_bytes x.rdata) ≡ length (data_bytes p.rdata) = ap (λ (z : Record). length (data_bytes z.rdata)) same in
    absurd (omega (arith, size, other, a.0))
same-first d (x ∷ f) (y ∷ g) o p r s a b long other is = same-first d f g o p r s a.1 b.1 long other (ap tail-of is)

same-long : (xs : List Record) (m n : ℕ) → FirstLong xs m → FirstLong xs n → m ≡ n
same-long xs m n a b =
    let long : 65535 < length (data_bytes a.one.rdata) = omega (arith, a.long, a.size) in
    let other : 65535 < length (data_bytes b.one.rdata) = omega (arith, b.long, b.size) in
    let one : a.one ≡ b.one = same-first a.one a.front b.front a.one b.one a.rest b.rest a.before b.before long other (sym a.is ∙ b.is) in
    a.size ∙ ap (λ (z : Record). length (data_bytes z.rdata)) one ∙ sym b.size

short-at : (front : List Record) (one : Record) (rest : List Record) → AreShort (front ++ one ∷ rest) → length (data_bytes one.rdata) ≤ 65535
short-at [] one rest short = short.0
short-at (r ∷ front) one rest short = short-at front one rest short.1

not-both : (xs : List Record) (n : ℕ) → FirstLong xs n → AreShort xs → ⊥
not-both xs n long short =
    let fits : length (data_bytes long.one.rdata) ≤ 65535 = short-at long.front long.one long.rest (rw long.is at short) in
    absurd (omega (arith, fits, long.size, long.long))

-- one cause alone stands for a message that cannot be written
pub same-tells : (m : Message) (d e : ProtoError) → TellsTooLong m d → TellsTooLong m e → (d ≡ proto.OutOfMemory → ⊥) → (e ≡ proto.OutOfMemory → ⊥) → d ≡ e
same-tells m proto.OutOfMemory e a b other more = absurd (other refl)
same-tells m (proto.OutsideGrammar at) e a b other more = absurd a
same-tells m proto.LabelEmpty e a b other more = absurd a
same-tells m proto.LabelLong e a b other more = absurd a
same-tells m proto.BadEscape e a b other more = absurd a
same-tells m proto.NameLong e a b other more = absurd a
same-tells m (proto.DataTooLong n) proto.OutOfMemory a b other more = absurd (more refl)
same-tells m (proto.DataTooLong n) (proto.OutsideGrammar at) a b other more = absurd b
same-tells m (proto.DataTooLong n) proto.LabelEmpty a b other more = absurd b
same-tells m (proto.DataTooLong n) proto.LabelLong a b other more = absurd b
same-tells m (proto.DataTooLong n) proto.BadEscape a b other more = absurd b
same-tells m (proto.DataTooLong n) proto.NameLong a b other more = absurd b
same-tells m (proto.DataTooLong n) (proto.DataTooLong k) a b other more = ap proto.DataTooLong (same-long (records_of m) n k a b)
same-tells m (proto.DataTooLong n) (proto.MessageTooLong k) a b other more = absurd (not-both (records_of m) n a b.0)
same-tells m (proto.MessageTooLong n) proto.OutOfMemory a b other more = absurd (more refl)
same-tells m (proto.MessageTooLong n) (proto.OutsideGrammar at) a b other more = absurd b
same-tells m (proto.MessageTooLong n) proto.LabelEmpty a b other more = absurd b
same-tells m (proto.MessageTooLong n) proto.LabelLong a b other more = absurd b
same-tells m (proto.MessageTooLong n) proto.BadEscape a b other more = absurd b
same-tells m (proto.MessageTooLong n) proto.NameLong a b other more = absurd b
same-tells m (proto.MessageTooLong n) (proto.DataTooLong k) a b other more = absurd (not-both (records_of m) k b a.0)
same-tells m (proto.MessageTooLong n) (proto.MessageTooLong k) a b other more = ap proto.MessageTooLong (a.1 ∙ sym b.1)
