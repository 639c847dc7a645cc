use Rattle.std.proofs.Common.{◌≡◌, ℕ, ◌+◌, ◌≤◌, List, [], ◌∷◌, ◌++◌, length, Result, Ok, Err, ap, ◌∙◌, sym}
use Rattle.std.specs.Result.{OnOk, OnErr}
use Rattle.dns_name.specs.Name.{IsLabel, name_len, label_bytes, labels_bytes}
use Rattle.dns_name.specs.NameBuffer.{IsWire, labels_of}
use Rattle.dns_name.proofs.Wire.{IsWire-spelled, labels_of-spelled}
use Rattle.dns_name.proofs.Walk.{IsName-push, labels_bytes-push}
use Rattle.dns_name.proofs.name.Name.push.Goals as goal

spelled : (old new l : List ℕ) → IsWire old → new ≡ old ++ label_bytes l → new ≡ labels_bytes (labels_of old ++ l ∷ [])
spelled old new l w e = e ∙ ap (λ bs. bs ++ label_bytes l) w.spelled ∙ sym (labels_bytes-push (labels_of old) l)

kept : {T E : Type 0} (r : Result T E) (old new l : List ℕ) → IsWire old → IsLabel l → name_len (labels_of old) + length l + 1 ≤ 255 → OnOk r (new ≡ old ++ label_bytes l) → OnErr r (new ≡ old) → IsWire new
kept (Ok x) old new l w h room a b = IsWire-spelled new _ (IsName-push _ l w.name h room) (spelled old new l w a)
kept (Err x) old new l w h room a b = rw b w

told : {T E : Type 0} (r : Result T E) (old new l : List ℕ) (self : List (List ℕ)) → labels_of old ≡ self → IsWire old → OnOk r (new ≡ old ++ label_bytes l) → OnOk r (labels_of new ≡ self ++ l ∷ [])
told (Ok x) old new l self e w a = labels_of-spelled _ _ (spelled old new l w a) ∙ ap (λ ls. ls ++ l ∷ []) e
told (Err x) old new l self e w a = tt

pub invariant_of-self : goal.invariant_of-self
invariant_of-self c =
    kept _ _ _ _ c.self.invariant c.requires.label (rw c.self.view_is c.requires.room) c.push_label.ensures.ok c.push_label.ensures.err

pub returns-clause-ok : goal.returns-clause-ok
returns-clause-ok c = told _ _ _ _ _ c.self.view_is c.self.invariant c.push_label.ensures.ok
