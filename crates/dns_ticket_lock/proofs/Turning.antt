-- What one turn of a seat with one account comes to.
use Rattle.std.proofs.Common.{◌≡◌, ◌⊎◌, inl, inr, ⊎_elim, ℕ, ◌+◌, ◌<◌, ◌||◌, Bool, true, false, Option, Some, None, Result, Ok, Err, IfOk, OnErr, List, [], ◌∷◌, ◌++◌, set, length, refl, sym, ap, subst, ◌∙◌, arith}
use Rattle.std.proofs.lemmas.List.{length-append, append-nil}
use mathlib.Core.Option.{some}
use lib.ListN.{get_elem?}
use Rattle.dns_io.specs.declared.fault.OutOfMemory.{OutOfMemory}
use Rattle.dns_io.specs.Told.{Rose}
use Rattle.dns_wire.specs.declared.record.Record.{Record}
use Rattle.dns_keeper.specs.declared.row.Row.{Row}
use Rattle.dns_keeper.specs.Keeping.{KeeperOf}
use Rattle.dns_book.specs.Access.{Access}
use Rattle.dns_book.specs.declared.ask.Ask.{Ask}
use Rattle.dns_book.specs.declared.ask.Receipt.{Receipt}
use Rattle.dns_book.specs.declared.ask.Settled.{Settled}
use Rattle.dns_book.specs.declared.ask.SettledInto.{SettledInto}
use Rattle.dns_book.specs.Into.{SettlesInto}
use Rattle.dns_book.specs.Book.{SeenOf, Ends, Settles, IsLeft}
use Rattle.dns_ticket_lock.specs.declared.held.Member.{Member}
use Rattle.dns_ticket_lock.specs.declared.held.Told.{Told}
use Rattle.dns_ticket_lock.specs.declared.view.Account.{Account}
use Rattle.dns_ticket_lock.specs.declared.view.Terms.{Terms}
use Rattle.dns_ticket_lock.specs.declared.view.View.{View}
use Rattle.dns_ticket_lock.specs.Passes.{PassSeen, IsSame, SettledBy}
use Rattle.dns_ticket_lock.specs.Lists.{StartsWith, with_head}
use Rattle.dns_ticket_lock.specs.Places.{listed, places_from}
use Rattle.dns_ticket_lock.specs.Naming.{NamesRows, Advances, batch_after}
use Rattle.dns_ticket_lock.specs.Rule.{own, settled, member_of, with_member, FindsOwn, Done, IsDone}
use Rattle.dns_ticket_lock.specs.Settling.{HasTerms, SettledAs, LeftAs, asked_by, done_by, receipt_in}
use Rattle.dns_book.proofs.IntoBuffer.{into_map}
use Rattle.dns_ticket_lock.proofs.Advancing.{Follows, follows}
use Rattle.dns_ticket_lock.proofs.Seats.{within}

or_last : (a b : Bool) → b ≡ true → (a || b) ≡ true
or_last true b e = refl
or_last false b e = e

or_first : (a b : Bool) → a ≡ true → (a || b) ≡ true
or_first a b e = rw e refl

pub finds_place : (accounts : List Account) (low : ℕ) (rows : List Row) (members : List Member) → 0 < length accounts → FindsOwn accounts low rows members → low < length members
finds_place [] low rows members some_own f = absurd (omega arith)
finds_place (a ∷ more) low rows members some_own f = within members low (member_of a) f.1

-- the list of members after
pub members_are : (accounts : List Account) (low : ℕ) (rows : List Row) (members later : List Member) (done : Done) → 0 < length accounts → FindsOwn accounts low rows members
    → ((m : Member) → get_elem? members low ≡ some m → later ≡ set members low (record { share = m.share + done.rise; mark = m.mark || done.mark }))
    → later ≡ with_member (with_head (settled rows done) accounts) low members
members_are [] low rows members later done some_own f is = absurd (omega arith)
members_are (a ∷ more) low rows members later done some_own f is = is (member_of a) f.1

-- a seat that has the one slot has this in it
slot_or : {H : Type 0} → H → List (ℕ × Option H) → H
slot_or d [] = d
slot_or d (x ∷ xs) = held_or d x.1
  where
    held_or : {H : Type 0} → H → Option H → H
    held_or d None = d
    held_or d (Some h) = h

pub same_held : {H : Type 0} (was : List (ℕ × Option H)) (x y : H) → was ≡ (0, Some x) ∷ [] → was ≡ (0, Some y) ∷ [] → x ≡ y
unfolding slot_or
same_held was x y p q = ap (slot_or x) (sym p ∙ q)

module _ {K : Type 0} (keeper : KeeperOf K) where
  -- what a turn did to the rows
  pub record IsTurn (number : ℕ) (rows : List Row) (book later : SeenOf K) (told : Told) : Type 0 where
    pub fit : IsDone number rows (done_by keeper number rows later told)
    pub many : told.count ≡ length (done_by keeper number rows later told).batch
    pub long : length rows + length (done_by keeper number rows later told).batch ≡ later.row_count
    pub named : NamesRows keeper later (rows ++ (done_by keeper number rows later told).batch)

  pub turn_of : (number : ℕ) (rows : List Row) (book later : SeenOf K) (told : Told) → NamesRows keeper book rows → Advances keeper number book told.receipt told.count later → IsTurn number rows book later told
  turn_of number rows book later told named step =
      let f : Follows number told.count rows (keeper.told later.keeper).rows = follows number told.count rows (keeper.told book.keeper).rows (keeper.told later.keeper).rows named.told step.rows in
      let count = named.count in
      let now = step.counted in
      let many = f.many in
      let long : length rows + length (batch_after number rows (keeper.told later.keeper).rows told.count) ≡ later.row_count = omega arith in
      record {
        fit = record {
          theirs = f.theirs;
          places = step.places ∙ (ap (λ (n : ℕ). places_from (n + 1) told.count) (sym count) ∙ ap (places_from (length rows + 1)) (sym many));
        };
        many = sym many;
        long = long;
        named = record { told = f.now; count = length-append rows (batch_after number rows (keeper.told later.keeper).rows told.count) ∙ long };
      }

  ends_rose : (before : SeenOf K) (ask : Ask) (batch : List Record) (failed : Bool) (receipt : Option Receipt) (after : SeenOf K) → Ends keeper before ask batch failed receipt after → failed ≡ true → Rose (keeper.told before.keeper).faults (keeper.told after.keeper).faults
  ends_rose before ask batch false None after (Ends.idle none) e = absurd (grind arith)
  ends_rose before ask batch false (Some receipt) after (Ends.journalled more held grown run later) e = absurd (grind arith)
  ends_rose before ask batch true None after (Ends.failed more held kept batches later rose) e = rose
  ends_rose before ask batch true (Some receipt) after x e = elim x [ ]

  settle_rose : (access : Access) (before : SeenOf K) (ask : Ask) (done : Settled) (after : SeenOf K) → (s : Settles keeper access before ask done after) → s.failed ≡ true → Rose (keeper.told before.keeper).faults (keeper.told after.keeper).faults
  settle_rose access before ask done after s e =
      subst (λ (b : SeenOf K). Rose (keeper.told before.keeper).faults (keeper.told b.keeper).faults) (sym s.counted) (ends_rose before ask _ s.failed done.receipt s.ended s.ends e)

  -- the count of faults stands still where the keeper did not fail
  ends_calm : (before : SeenOf K) (ask : Ask) (batch : List Record) (failed : Bool) (receipt : Option Receipt) (after : SeenOf K) → Ends keeper before ask batch failed receipt after → failed ≡ false
      → (keeper.told after.keeper).faults ≡ (keeper.told before.keeper).faults
  ends_calm before ask batch false None after (Ends.idle none) e = refl
  ends_calm before ask batch false (Some receipt) after (Ends.journalled more held grown run later) e = later
  ends_calm before ask batch true None after (Ends.failed more held kept batches later rose) e = absurd (grind arith)
  ends_calm before ask batch true (Some receipt) after x e = elim x [ ]

  settle_calm : (access : Access) (before : SeenOf K) (ask : Ask) (done : Settled) (after : SeenOf K) → (s : Settles keeper access before ask done after) → s.failed ≡ false
      → (keeper.told after.keeper).faults ≡ (keeper.told before.keeper).faults
  settle_calm access before ask done after s e =
      subst (λ (b : SeenOf K). (keeper.told b.keeper).faults ≡ (keeper.told before.keeper).faults) (sym s.counted) (ends_calm before ask _ s.failed done.receipt s.ended s.ends e)

  -- the same settle, where its message says the number already
  asked : (access : Access) (book : SeenOf K) (number : ℕ) (ask : Ask) (answer : Settled) (later : SeenOf K) → ask.client ≡ number → (s : Settles keeper access book ask answer later)
      → (s2 : Settles keeper access book (asked_by number ask) answer later) × (s2.failed ≡ true → s.failed ≡ true) × (s2.failed ≡ false → s.failed ≡ false)
  asked access book number ask answer later client s =
      subst (λ (n : ℕ). (s2 : Settles keeper access book (asked_by n ask) answer later) × (s2.failed ≡ true → s.failed ≡ true) × (s2.failed ≡ false → s.failed ≡ false)) client (s, λ e. e, λ e. e)

  -- where the book answered, the account has settled
  pub settles_one : (t : Terms) (access : Access) (number : ℕ) (a : Account) (ask : Ask) (answer : Settled) (rows : List Row) (book later : SeenOf K) (told : Told)
      → StartsWith rows a.seen → HasTerms t book → NamesRows keeper book rows → ask.client ≡ number → Settles keeper access book ask answer later
      → IsTurn number rows book later told → told.receipt ≡ answer.receipt → (keeper.told book.keeper).faults + told.rise ≡ (keeper.told later.keeper).faults
      → (Rose (keeper.told book.keeper).faults (keeper.told later.keeper).faults → (0 < told.rise) ⊎ (told.mark ≡ true))
      → SettledAs keeper t access number a ask answer (settled rows (done_by keeper number rows later told) a)
  settles_one t access number a ask answer rows book later told began terms named client s turn receipt rise rose =
      let same = asked access book number ask answer later client s in
      record {
        book = book;
        rows = rows;
        later = later;
        terms = terms;
        named = named;
        began = began;
        settles = same.0;
        grew = ((done_by keeper number rows later told).batch, refl);
        seen = turn.named;
        receipts = ap (λ (r : Option Receipt). a.receipts ++ listed r) receipt;
        counted = omega arith;
        failed = λ e. ⊎_elim (λ (some : 0 < told.rise). inl (omega arith)) (λ m. inr (or_last a.marked told.mark m))
            (rose (settle_rose access book ask answer later s (same.1 e)));
        calm = λ e. let still = settle_calm access book ask answer later s (same.2 e) in omega (arith, still, rise);
        mark = or_first a.marked told.mark;
      }

  settles : (t : Terms) (access : Access) (number : ℕ) (accounts : List Account) (low : ℕ) (members : List Member) (ask : Ask) (answer : Settled) (rows : List Row) (book later : SeenOf K) (told : Told)
      → 0 < length accounts → FindsOwn accounts low rows members → HasTerms t book → NamesRows keeper book rows → ask.client ≡ number → Settles keeper access book ask answer later
      → IsTurn number rows book later told → told.receipt ≡ answer.receipt → (keeper.told book.keeper).faults + told.rise ≡ (keeper.told later.keeper).faults
      → (Rose (keeper.told book.keeper).faults (keeper.told later.keeper).faults → (0 < told.rise) ⊎ (told.mark ≡ true))
      → SettledAs keeper t access number (own accounts) ask answer (own (with_head (settled rows (done_by keeper number rows later told)) accounts))
  settles t access number [] low members ask answer rows book later told some_own found terms named client s turn receipt rise rose = absurd (omega arith)
  settles t access number (a ∷ more) low members ask answer rows book later told some_own found terms named client s turn receipt rise rose =
      settles_one t access number a ask answer rows book later told found.0 terms named client s turn receipt rise rose

  -- where it found no memory, it has seen no less
  pub leaves_one : (number : ℕ) (a : Account) (rows : List Row) (book later : SeenOf K) (told : Told) → StartsWith rows a.seen → told.receipt ≡ None → told.rise ≡ 0
      → LeftAs a (settled rows (done_by keeper number rows later told) a)
  leaves_one number a rows book later told began receipt rise = record {
    seen = begins_further rows a.seen (done_by keeper number rows later told).batch began;
    receipts = ap (λ (r : Option Receipt). a.receipts ++ listed r) receipt ∙ append-nil a.receipts;
    faults = omega arith;
    mark = or_first a.marked told.mark;
  }
    where
      begins_further : (rows seen batch : List Row) → StartsWith rows seen → StartsWith (rows ++ batch) seen
      begins_further rows seen batch begins = Rattle.dns_ticket_lock.proofs.Seats.begins_more rows seen (rows ++ batch) (batch, refl) begins

  leaves : (number : ℕ) (accounts : List Account) (low : ℕ) (members : List Member) (rows : List Row) (book later : SeenOf K) (told : Told) → 0 < length accounts → FindsOwn accounts low rows members
      → told.receipt ≡ None → told.rise ≡ 0 → LeftAs (own accounts) (own (with_head (settled rows (done_by keeper number rows later told)) accounts))
  leaves number [] low members rows book later told some_own found receipt rise = absurd (omega arith)
  leaves number (a ∷ more) low members rows book later told some_own found receipt rise = leaves_one number a rows book later told found.0 receipt rise

  pub answered : (t : Terms) (access : Access) (number : ℕ) (accounts : List Account) (low : ℕ) (members : List Member) (ask : Ask) (framed : Bool) (had has : List ℕ) (answer : Result SettledInto OutOfMemory) (rows : List Row)
      (book later : SeenOf K) (told : Told)
      → 0 < length accounts → FindsOwn accounts low rows members → HasTerms t book → NamesRows keeper book rows → ask.client ≡ number → IfOk answer (SettlesInto (λ s. Settles keeper access book ask s later) framed had has)
      → IsTurn number rows book later told → told.receipt ≡ receipt_in answer → (keeper.told book.keeper).faults + told.rise ≡ (keeper.told later.keeper).faults
      → (Rose (keeper.told book.keeper).faults (keeper.told later.keeper).faults → (0 < told.rise) ⊎ (told.mark ≡ true))
      → IfOk answer (SettlesInto (λ s. SettledAs keeper t access number (own accounts) ask s (own (with_head (settled rows (done_by keeper number rows later told)) accounts))) framed had has)
  answered t access number accounts low members ask framed had has (Ok into) rows book later told some_own found terms named client ok turn receipt rise rose =
      into_map (λ s. Settles keeper access book ask s later) (λ s. SettledAs keeper t access number (own accounts) ask s (own (with_head (settled rows (done_by keeper number rows later told)) accounts))) framed had has into
      (λ s is step. settles t access number accounts low members ask s rows book later told some_own found terms named client step turn (receipt ∙ ap (λ (i : SettledInto). i.receipt) is) rise rose) ok
  answered t access number accounts low members ask framed had has (Err fault) rows book later told some_own found terms named client ok turn receipt rise rose = tt

  pub unanswered : (number : ℕ) (accounts : List Account) (low : ℕ) (members : List Member) (answer : Result SettledInto OutOfMemory) (rows : List Row) (book later : SeenOf K) (told : Told)
      → 0 < length accounts → FindsOwn accounts low rows members → OnErr answer (IsLeft keeper book later) → told.receipt ≡ receipt_in answer → (keeper.told book.keeper).faults + told.rise ≡ (keeper.told later.keeper).faults
      → OnErr answer (LeftAs (own accounts) (own (with_head (settled rows (done_by keeper number rows later told)) accounts)))
  unanswered number accounts low members (Ok into) rows book later told some_own found err receipt rise = tt
  unanswered number accounts low members (Err fault) rows book later told some_own found err receipt rise =
      let left : IsLeft keeper book later = err in
      let same = left.uncounted in
      leaves number accounts low members rows book later told some_own found receipt (omega arith)

  pub seen_is : (accounts : List Account) (rows : List Row) (done : Done) → 0 < length accounts → (own (with_head (settled rows done) accounts)).seen ≡ rows ++ done.batch
  seen_is [] rows done some_own = absurd (omega arith)
  seen_is (a ∷ more) rows done some_own = refl

-- the message is asked by a number in one step or in two
pub asked_once : {K : Type 0} (keeper : KeeperOf K) (t : Terms) (access : Access) (number : ℕ) (before : Account) (ask : Ask) (answer : Settled) (after : Account)
    → SettledAs keeper t access number before (asked_by number ask) answer after → SettledAs keeper t access number before ask answer after
asked_once keeper t access number before ask answer after s = record {
  book = s.book;
  rows = s.rows;
  later = s.later;
  terms = s.terms;
  named = s.named;
  began = s.began;
  settles = s.settles;
  grew = s.grew;
  seen = s.seen;
  receipts = s.receipts;
  counted = s.counted;
  failed = s.failed;
  calm = s.calm;
  mark = s.mark;
}

-- what the turn of a seat comes to for its pass
pub settled_by : {K : Type 0} (keeper : KeeperOf K) (access : Access) (before after : PassSeen) (ask asked : Ask) (answer : Settled) (old new : View)
    → before.terms ≡ old.terms → before.number ≡ old.low + 1 → before.account ≡ own old.accounts → asked ≡ asked_by before.number ask → IsSame before after → after.account ≡ own new.accounts
    → SettledAs keeper old.terms access (old.low + 1) (own old.accounts) asked answer (own new.accounts)
    → SettledBy keeper access before ask answer after
settled_by keeper access before after ask asked s old new terms number account ask_is same account2 ok =
    let a = subst (λ (x : Account). SettledAs keeper old.terms access (old.low + 1) (own old.accounts) asked s x) (sym account2) ok in
    let b = subst (λ (x : Account). SettledAs keeper old.terms access (old.low + 1) x asked s after.account) (sym account) a in
    let c = subst (λ (n : ℕ). SettledAs keeper old.terms access n before.account asked s after.account) (sym number) b in
    let d = subst (λ (t : Terms). SettledAs keeper t access before.number before.account asked s after.account) (sym terms) c in
    let e = subst (λ (q : Ask). SettledAs keeper before.terms access before.number before.account q s after.account) ask_is d in
    record { same = same; account = asked_once keeper before.terms access before.number before.account ask s after.account e }
