-- A follower after a row was to be held.
use Rattle.std.proofs.Common.{◌≡◌, ℕ, List, [], ◌∷◌, ◌++◌, Option, Result, Ok, Err, sym, ap, ◌∙◌, subst}
use Rattle.std.specs.Prelude.{OnOk, OnErr}
use Rattle.dns_io.specs.declared.fault.OutOfMemory.{OutOfMemory as NoMemory}
use Rattle.dns_wire.specs.declared.record.Record.{Record}
use Rattle.dns_keeper.specs.declared.row.Row.{Row}
use Rattle.dns_keeper.specs.Keeping.{KeeperTold}
use Rattle.dns_zone_map.specs.Zone.{Contents}
use Rattle.dns_follow.specs.declared.frame.Frame.{Frame}
use Rattle.dns_follow.specs.Feed.{row_of}
use Rattle.dns_follow.specs.Seen.{IsSound}
use Rattle.dns_follow.proofs.Sound.{GoesOn, sound_more}

module _ (origin : List (List ℕ)) (zone : Option Contents) (count : ℕ) (held held' : List Row) (records records' : List Record) (f : Frame) (r : Record) (told : KeeperTold) where
  moved : (h : List Row) (rs : List Record) → held' ≡ h → records' ≡ rs → IsSound told origin zone count h rs → IsSound told origin zone count held' records'
  moved h rs e g sound =
      subst (λ (l : List Row). IsSound told origin zone count l records') (sym e) (subst (λ (l : List Record). IsSound told origin zone count h l) (sym g) sound)

  pub pushed_sound : (result : Result (Unit {0}) NoMemory) (row : Row) → IsSound told origin zone count held records → GoesOn count held f r → row ≡ row_of f
      → OnOk result (held' ≡ held ++ row ∷ []) → OnOk result (records' ≡ records ++ r ∷ []) → OnErr result (held' ≡ held) → OnErr result (records' ≡ records)
      → IsSound told origin zone count held' records'
  pushed_sound (Ok done) row sound goes is h rs same_h same_rs =
      moved (held ++ row_of f ∷ []) (records ++ r ∷ []) (h ∙ ap (λ (x : Row). held ++ x ∷ []) is) rs (sound_more origin zone count held records f r told sound goes)
  pushed_sound (Err fault) row sound goes is h rs same_h same_rs = moved held records same_h same_rs sound
