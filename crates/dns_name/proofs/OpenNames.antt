-- The buffer of a name that is being read from its text.
use Rattle.std.proofs.Common.{◌≡◌, ℕ, suc, ◌+◌, ◌-◌, ◌<◌, ◌≤◌, List, [], ◌∷◌, ◌++◌, length, take, drop, set, refl, sym, ap, ◌∙◌, arith, length-append, length-drop, Result, Ok, Err, false}
use Rattle.std.specs.Prelude.{◌==◌}
use Rattle.std.proofs.lemmas.Bool.{lt-ltb, ne_eqb}
use Rattle.std.proofs.lemmas.List.{set-append_left, set_split, length-set, take_at, drop_all, length-take-le}
use Rattle.dns_name.specs.declared.fault.ProtoError.{ProtoError}
use Rattle.dns_name.specs.declared.fault.ProtoError.TheVariants.{NameLong, OutOfMemory}
use Rattle.dns_name.specs.Name.{IsLabel, name_len, label_bytes, labels_bytes}
use Rattle.dns_name.specs.NameBuffer.{labels_of, IsWire}
use Rattle.dns_name.specs.Fault.{Tells}
use Rattle.dns_name.specs.NameText.{closed, labels_from, short_name}
use Rattle.dns_name.specs.NameParsing.{IsOpenAt, Pieces, ahead}
use Rattle.dns_name.proofs.Wire.{labels_of-spelled, length-labels_bytes}
use Rattle.dns_name.proofs.Walk.{AllByRecursion-append, labels_bytes-push}

-- what such a buffer holds
abbrev pub pieces_of : List ℕ → ℕ → Pieces
pieces_of bytes at = record { labels = labels_of (take at bytes); label = drop (at + 1) bytes }

no_labels : labels_of [] ≡ []
no_labels = labels_of-spelled [] [] refl

-- the buffer at the start
pub IsOpenAt-start : (bytes : List ℕ) → bytes ≡ 0 ∷ [] → IsOpenAt bytes 0
IsOpenAt-start bytes e = rw e (record { inside = omega arith; each = rw no_labels tt; spelled = rw no_labels refl })

pub pieces_of-start : (bytes : List ℕ) → bytes ≡ 0 ∷ [] → pieces_of bytes 0 ≡ record { labels = []; label = [] }
pieces_of-start bytes e = rw (e, no_labels) refl

-- a label ends: its length is set, and another one begins at the end
module _ (bytes new : List ℕ) (at len end : ℕ) (open_ : IsOpenAt bytes at) (size : len ≡ end - at - 1) (last : end ≡ length bytes) (is : new ≡ set (bytes ++ 0 ∷ []) at len) where
  take-new : take end new ≡ take at bytes ++ label_bytes (drop (at + 1) bytes)
  take-new =
      let e : at + 1 ≡ suc at = omega arith in
      let one : len ≡ length (drop (at + 1) bytes) = omega (arith, length-drop (at + 1) bytes, last) in
      rw (is, set-append_left bytes (0 ∷ []) at len open_.inside, take_at (set bytes at len) (0 ∷ []) end (length-set bytes at len ∙ sym last), set_split bytes at len open_.inside, ← e, one) refl

  spelled-new : take end new ≡ labels_bytes (labels_of (take at bytes) ++ drop (at + 1) bytes ∷ [])
  spelled-new =
      take-new ∙ ap (λ (l : List ℕ). l ++ label_bytes (drop (at + 1) bytes)) open_.spelled ∙ sym (labels_bytes-push (labels_of (take at bytes)) (drop (at + 1) bytes))

  labels_of-new : labels_of (take end new) ≡ labels_of (take at bytes) ++ drop (at + 1) bytes ∷ []
  labels_of-new = labels_of-spelled _ _ spelled-new

  length-new : length new ≡ end + 1
  length-new = omega (arith, ap length is, length-set (bytes ++ 0 ∷ []) at len, length-append bytes (0 ∷ []), last)

  pub IsOpenAt-closed : IsLabel (drop (at + 1) bytes) → IsOpenAt new end
  IsOpenAt-closed h = record {
    inside = omega (arith, length-new);
    each = rw labels_of-new (AllByRecursion-append (labels_of (take at bytes)) (drop (at + 1) bytes ∷ []) open_.each (h, tt));
    spelled = rw labels_of-new spelled-new;
  }

  pub pieces_of-closed : pieces_of new end ≡ record { labels = labels_of (take at bytes) ++ drop (at + 1) bytes ∷ []; label = [] }
  pieces_of-closed = rw (labels_of-new, drop_all (end + 1) new (omega (arith, length-new))) refl

-- the labels that ended are a name, where they take few bytes
pub IsWire-closed : (bytes new : List ℕ) (at : ℕ) → IsOpenAt bytes at → at ≤ 254 → new ≡ take at bytes → IsWire new
IsWire-closed bytes new at o short e =
    let size : length (take at bytes) ≡ at = length-take-le at bytes (omega (arith, o.inside)) in
    rw e (record { name = record { each = o.each; short = omega (arith, size, ap length o.spelled, length-labels_bytes (labels_of (take at bytes))) }; spelled = o.spelled })

-- labels that take too many bytes
pub long_name : (bytes : List ℕ) (at : ℕ) (labels : List (List ℕ)) → IsOpenAt bytes at → 254 < at → labels_of (take at bytes) ≡ labels → short_name (Ok labels) ≡ Err NameLong
long_name bytes at labels o long e =
    let size : length (take at bytes) ≡ at = length-take-le at bytes (omega (arith, o.inside)) in
    let over : 255 < name_len labels = rw (← e) (omega (arith, size, ap length o.spelled, length-labels_bytes (labels_of (take at bytes)))) in
    rw (lt-ltb 255 (name_len labels) over) refl

-- a fault in the labels to come is one of all
pub Tells-ahead : (error : ProtoError) (labels : List (List ℕ)) (more : Result (List (List ℕ)) ProtoError) → Tells error more → Tells error (ahead labels more)
Tells-ahead OutOfMemory labels more t = tt
Tells-ahead error labels more t = ap (ahead labels) t

-- a fault in the last label
pub Tells-ended : (error : ProtoError) (labels : List (List ℕ)) (label : List ℕ) → 0 < length label → Tells error (closed label (Ok [])) → Tells error (ahead labels (labels_from label []))
Tells-ended error labels label some t =
    let open_ : (length label == 0) ≡ false = ne_eqb (length label) 0 (λ e. omega (arith, e, some)) in
    Tells-ahead error labels (labels_from label []) (rw open_ (rw open_ at t))
