-- From where changes of a map can be undone, and what it is when they are kept or undone.
use Rattle.std.proofs.Common.{◌≡◌, ℕ, List, [], sym, ap, ◌∙◌, subst, Some, None}
use Rattle.std.specs.Prelude.{Option, IfSome}
use Rattle.dns_zone_map.specs.declared.former.FormerSets.{FormerSets}
use Rattle.dns_zone_map.specs.declared.former.Undoing.{Undoing}
use Rattle.dns_zone_map.specs.Mapped.{Mapped, begun}
use Rattle.dns_zone_map.specs.Order.{list_of}
use Rattle.dns_zone_map.specs.Tree.{in_entries, IsTree, OwnsSame}
use Rattle.dns_zone_map.specs.Former.{restored, before_of, ArePresent, CanUndo, IsMap}
use Rattle.dns_zone_map.proofs.Rest.{Entries}
use Rattle.dns_zone_map.proofs.Swept.{swept_tree}
use Rattle.dns_zone_map.proofs.Formers.{all_given}
use Rattle.dns_zone_map.proofs.CanBeUndone.{mapped_of}

module _ (origin : List (List ℕ)) (es : Entries) (next count : ℕ) (was : Option Undoing) (m : IsMap origin es next count was) where
  given_first : (fs : List FormerSets) → fs ≡ [] → restored fs es ≡ es
  given_first fs none = ap (λ (gs : List FormerSets). restored gs es) none ∙ all_given es

  -- at first nothing was kept
  pub begun_map : (u : Undoing) → u.formers.items ≡ [] → u.next ≡ next → u.count ≡ count → IsMap origin es next count (Some u)
  begun_map u none n c = record {
    tree = m.tree;
    undo = record {
      present = subst (λ (fs : List FormerSets). ArePresent fs es) (sym none) tt;
      tree = subst (λ (k : ℕ). IsTree origin (restored u.formers.items es) k u.count) (sym n)
          (subst (λ (k : ℕ). IsTree origin (restored u.formers.items es) next k) (sym c) (subst (λ (gs : Entries). IsTree origin gs next count) (sym (given_first u.formers.items none)) m.tree));
    };
  }

  pub kept_map : (swept : Entries) → OwnsSame es swept → IsMap origin swept next count None
  kept_map swept same = record { tree = swept_tree origin es swept next count same m.tree; undo = tt }

  pub undone_map : (u : Undoing) (back swept : Entries) → was ≡ Some u → back ≡ restored u.formers.items es → OwnsSame back swept → IsMap origin swept u.next u.count None
  undone_map u back swept at is same =
      let can : IfSome (Some u) (CanUndo origin es) = subst (λ (w : Option Undoing). IfSome w (CanUndo origin es)) at m.undo in
      record { tree = swept_tree origin back swept u.next u.count same (subst (λ (gs : Entries). IsTree origin gs u.next u.count) (sym is) can.tree); undo = tt }

  pub begun_seen : (zone : Mapped) → mapped_of origin (list_of (in_entries es)) (before_of was es) ≡ zone → (u : Undoing) → u.formers.items ≡ [] → mapped_of origin (list_of (in_entries es)) (before_of (Some u) es) ≡ begun zone
  begun_seen zone view u none = ap (λ (gs : Entries). mapped_of origin (list_of (in_entries es)) (Some (list_of (in_entries gs)))) (given_first u.formers.items none) ∙ ap begun view
