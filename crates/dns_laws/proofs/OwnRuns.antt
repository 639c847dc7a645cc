-- A run over all messages, as one receiver sees it.
use Rattle.std.proofs.Common.{◌≡◌, ℕ, ◌-◌, ◌<◌, ◌≤◌, ◌^◌, List, [], ◌∷◌, ◌++◌, Bool, true, false, Option, Some, None, refl, sym, ap, ◌∙◌, subst, cond, arith}
use Rattle.std.proofs.lemmas.Bool.{false_from_ne_true}
use Rattle.std.proofs.lemmas.List.Elements.{filter-append}
use Rattle.dns_io.specs.Told.{Rose}
use Rattle.dns_keeper.specs.Keeping.{KeeperOf}
use Rattle.dns_book.specs.declared.ask.Settled.{Settled}
use Rattle.dns_book.specs.Access.{Access}
use Rattle.dns_book.specs.Book.{SeenOf, Settles}
use Rattle.dns_book.proofs.Failing.{Settles-later, Settles-rose}
use Rattle.dns_server_core.specs.declared.event.Out.{Out}
use Rattle.dns_server_core.specs.declared.event.Receiver.{Receiver}
use Rattle.dns_server_core.specs.Runs.{Completed, outs_of, Run}
use Rattle.dns_laws.specs.Receivers.{is_one, messages_to, sent_for}
use Rattle.dns_laws.specs.Isolation.{IsNoUpdate, OthersUpdateNothing, AreAlike, IsUnchanged}
use Rattle.dns_laws.proofs.Unchanged.{Settles-unchanged}
use Rattle.dns_laws.proofs.AlikeBooks.{OneAnswer, alike-unchanged, Settles-alike}

no_rise : (n m : ℕ) → Rose n m → m ≤ n → n < 2 ^ 64 - 1 → ⊥
no_rise n m rose down below = omega arith

-- what is sent to a receiver of one reply
sent_own : (r to : Receiver) (reply : Option (List ℕ)) → is_one r to ≡ true → sent_for r (outs_of to reply) ≡ outs_of to reply
sent_own r to None h = refl
sent_own r to (Some bytes) h = rw h refl

sent_other : (r to : Receiver) (reply : Option (List ℕ)) → is_one r to ≡ false → sent_for r (outs_of to reply) ≡ []
sent_other r to None h = refl
sent_other r to (Some bytes) h = rw h refl

-- a message that was settled without a fault
pub record Succeeds {K : Type 0} (keeper : KeeperOf K) (access : Access) (a : SeenOf K) (c : Completed) (settled : Settled) (b : SeenOf K) : Type 0 where
  pub settles : Settles keeper access a c.ask settled b
  pub unfailed : settles.failed ≡ false

-- messages are settled without a fault, and between them nothing changes but the counts
abbrev pub OwnRun : {K : Type 0} → KeeperOf K → Access → SeenOf K → List Completed → List Out → SeenOf K → Type 0
OwnRun keeper access a [] outs b = IsUnchanged a b × (outs ≡ [])
OwnRun {K} keeper access a (c ∷ cs) outs b = (settled : Settled) × (before : SeenOf K) × (between : SeenOf K) × (others : List Out)
    × IsUnchanged a before × Succeeds keeper access before c settled between × (outs ≡ outs_of c.to settled.reply ++ others) × OwnRun keeper access between cs others b

module _ {K : Type 0} (keeper : KeeperOf K) (access : Access) where
  unchanged_more : (a b c : SeenOf K) → IsUnchanged a b → IsUnchanged b c → IsUnchanged a c
  unchanged_more a b c p q = q ∙ ap (λ (x : SeenOf K). record x { counts = c.counts }) p

  run_later : (a b : SeenOf K) (xs : List Completed) (outs : List Out) → Run (Settles keeper access) a xs outs b → (keeper.told a.keeper).faults ≤ (keeper.told b.keeper).faults
  run_later a b [] outs ran = subst (λ (x : SeenOf K). (keeper.told a.keeper).faults ≤ (keeper.told x.keeper).faults) (sym ran.0) (omega arith)
  run_later a b (x ∷ xs) outs ran = omega (arith, Settles-later keeper access a ran.1 x.ask ran.0 ran.3, run_later ran.1 b xs ran.2 ran.5)

  succeeds : (a b : SeenOf K) (c : Completed) (settled : Settled) → Settles keeper access a c.ask settled b → (keeper.told b.keeper).faults ≤ (keeper.told a.keeper).faults → (keeper.told a.keeper).faults < 2 ^ 64 - 1 → Succeeds keeper access a c settled b
  succeeds a b c settled s down below = record {
    settles = s;
    unfailed = false_from_ne_true s.failed (λ t. no_rise (keeper.told a.keeper).faults (keeper.told b.keeper).faults (Settles-rose keeper access a b c.ask settled s t) down below);
  }

  own_from : (a b c : SeenOf K) (xs : List Completed) (outs : List Out) → IsUnchanged a b → OwnRun keeper access b xs outs c → OwnRun keeper access a xs outs c
  own_from a b c [] outs p r = (unchanged_more a b c p r.0, r.1)
  own_from a b c (x ∷ xs) outs p r = (r.0, r.1, r.2, r.3, unchanged_more a b r.1 p r.4, r.5, r.6, r.7)

  own_if : (r : Receiver) (a b between : SeenOf K) (x : Completed) (xs : List Completed) (settled : Settled) (outs others : List Out) (mine : Bool) → is_one r x.to ≡ mine
      → (is_one r x.to ≡ false → IsNoUpdate x.ask.bytes) → Succeeds keeper access a x settled between → outs ≡ outs_of x.to settled.reply ++ others
      → OwnRun keeper access between (messages_to r xs) (sent_for r others) b → OwnRun keeper access a (cond mine (x ∷ messages_to r xs) (messages_to r xs)) (sent_for r outs) b
  own_if r a b between x xs settled outs others true h quiet s e rest = (
    settled,
    a,
    between,
    sent_for r others,
    refl,
    s,
    ap (sent_for r) e ∙ filter-append (λ (o : Out). is_one r o.to) (outs_of x.to settled.reply) others ∙ ap (λ (l : List Out). l ++ sent_for r others) (sent_own r x.to settled.reply h),
    rest,
  )
  own_if r a b between x xs settled outs others false h quiet s e rest =
      let left : sent_for r outs ≡ sent_for r others =
      ap (sent_for r) e ∙ filter-append (λ (o : Out). is_one r o.to) (outs_of x.to settled.reply) others ∙ ap (λ (l : List Out). l ++ sent_for r others) (sent_other r x.to settled.reply h) in
      subst (λ (l : List Out). OwnRun keeper access a (messages_to r xs) l b) (sym left)
      (own_from a between b (messages_to r xs) (sent_for r others) (Settles-unchanged keeper access a between x.ask settled s.settles (quiet h)).0 rest)

  -- the messages of others are passed over
  pub own-run : (r : Receiver) (a b : SeenOf K) (xs : List Completed) (outs : List Out) → OthersUpdateNothing r xs → (keeper.told b.keeper).faults ≤ (keeper.told a.keeper).faults → (keeper.told a.keeper).faults < 2 ^ 64 - 1
      → Run (Settles keeper access) a xs outs b → OwnRun keeper access a (messages_to r xs) (sent_for r outs) b
  own-run r a b [] outs quiet down below ran = (subst (λ (x : SeenOf K). IsUnchanged a x) (sym ran.0) refl, ap (sent_for r) ran.1)
  own-run r a b (x ∷ xs) outs quiet down below ran =
      let first : (keeper.told a.keeper).faults ≤ (keeper.told ran.1.keeper).faults = Settles-later keeper access a ran.1 x.ask ran.0 ran.3 in
      let second : (keeper.told ran.1.keeper).faults ≤ (keeper.told b.keeper).faults = run_later ran.1 b xs ran.2 ran.5 in
      own_if r a b ran.1 x xs ran.0 outs ran.2 (is_one r x.to) refl quiet.0 (succeeds a ran.1 x ran.0 ran.3 (omega (arith, second, down)) below) ran.4
      (own-run r ran.1 b xs ran.2 quiet.1 (omega (arith, first, down)) (omega (arith, second, down, below)) ran.5)

  -- two runs over the same messages, from books that are alike
  pub same-run : OneAnswer → (xs : List Completed) (a b c d : SeenOf K) (outs sent : List Out) → OwnRun keeper access a xs outs c → OwnRun keeper access b xs sent d → AreAlike keeper a b → (outs ≡ sent) × AreAlike keeper c d
  same-run one [] a b c d outs sent x y h = (x.1 ∙ sym y.1, alike-unchanged keeper a b c d x.0 y.0 h)
  same-run one (m ∷ ms) a b c d outs sent x y h =
      let step = Settles-alike keeper one access m.ask x.1 x.2 y.1 y.2 x.0 y.0 x.5.settles y.5.settles x.5.unfailed y.5.unfailed (alike-unchanged keeper a b x.1 y.1 x.4 y.4 h) in
      let rest = same-run one ms x.2 y.2 c d x.3 y.3 x.7 y.7 step.1 in (
        x.6
            ∙ ap (λ (reply : Option (List ℕ)). outs_of m.to reply ++ x.3) step.0
            ∙ ap (λ (l : List Out). outs_of m.to y.0.reply ++ l) rest.0
            ∙ sym y.6,
        rest.1,
      )
