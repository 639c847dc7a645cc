-- The first record of a list whose data is too long to be written.
use Rattle.std.proofs.Common.{◌≡◌, ℕ, ◌+◌, ◌<◌, List, [], ◌∷◌, ◌++◌, length, get_or, take, drop, sym, ap, ◌∙◌, append_assoc}
use Rattle.std.proofs.lemmas.List.{take-append-drop, drop_more}
use Rattle.dns_name.specs.declared.fault.ProtoError.{ProtoError}
use Rattle.dns_name.specs.declared.fault.ProtoError.TheVariants.{DataTooLong, OutOfMemory}
use Rattle.dns_wire.specs.declared.record.Record.{Record}
use Rattle.dns_wire.specs.WireFormat.{AreShort, TellsLong}
use Rattle.dns_wire.specs.MessageBytes.{FirstLong, TellsFirst}

pub TellsFirst-at : (xs : List Record) (i : ℕ) (r : Record) (e : ProtoError) → i < length xs → AreShort (take i xs) → r ≡ get_or xs i r → TellsLong r e → TellsFirst xs e
TellsFirst-at xs i r (DataTooLong n) h a is t = record {
  front = take i xs;
  one = r;
  rest = drop (i + 1) xs;
  is = sym (take-append-drop i xs) ∙ ap (λ (ys : List Record). take i xs ++ ys) (drop_more xs i r h ∙ ap (λ (x : Record). x ∷ drop (i + 1) xs) (sym is));
  before = a;
  size = t.0;
  long = t.1;
}
TellsFirst-at xs i r OutOfMemory h a is t = tt
TellsFirst-at xs i r _ h a is t = absurd t

FirstLong-front : (xs ys : List Record) (n : ℕ) → FirstLong xs n → FirstLong (xs ++ ys) n
FirstLong-front xs ys n f = record {
  front = f.front;
  one = f.one;
  rest = f.rest ++ ys;
  is = ap (λ (zs : List Record). zs ++ ys) f.is ∙ append_assoc f.front (f.one ∷ f.rest) ys;
  before = f.before;
  size = f.size;
  long = f.long;
}

AreShort-append : (xs ys : List Record) → AreShort xs → AreShort ys → AreShort (xs ++ ys)
AreShort-append [] ys a b = b
AreShort-append (x ∷ xs) ys a b = (a.0, AreShort-append xs ys a.1 b)

FirstLong-after : (xs ys : List Record) (n : ℕ) → AreShort xs → FirstLong ys n → FirstLong (xs ++ ys) n
FirstLong-after xs ys n a f = record {
  front = xs ++ f.front;
  one = f.one;
  rest = f.rest;
  is = ap (λ (zs : List Record). xs ++ zs) f.is ∙ sym (append_assoc xs f.front (f.one ∷ f.rest));
  before = AreShort-append xs f.front a f.before;
  size = f.size;
  long = f.long;
}

-- the first too long of a list is the first of one that begins with it
pub TellsFirst-front : (xs ys : List Record) (e : ProtoError) → TellsFirst xs e → TellsFirst (xs ++ ys) e
TellsFirst-front xs ys (DataTooLong n) t = FirstLong-front xs ys n t
TellsFirst-front xs ys OutOfMemory t = tt
TellsFirst-front xs ys _ t = absurd t

-- and of one that begins with records that aren't
pub TellsFirst-after : (xs ys : List Record) (e : ProtoError) → AreShort xs → TellsFirst ys e → TellsFirst (xs ++ ys) e
TellsFirst-after xs ys (DataTooLong n) a t = FirstLong-after xs ys n a t
TellsFirst-after xs ys OutOfMemory a t = tt
TellsFirst-after xs ys _ a t = absurd t
