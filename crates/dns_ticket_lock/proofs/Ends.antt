-- A seat cut in two, two seats joined, the start and the end.
use Rattle.std.proofs.Common.{◌≡◌, ◌≢◌, inl, ⊎_elim, ℕ, zero, suc, ◌+◌, ◌-◌, ◌<◌, ◌≤◌, ◌==◌, ◌&&◌, cond, Bool, true, false, true≢false, List, [], ◌∷◌, set, length, drop, replicate, Option, Some, None, refl, sym, ap, subst, ◌∙◌, arith}
use Rattle.std.proofs.lemmas.List.{length-append, append-nil}
use mathlib.Core.Option.{some, some-injective, some-ne-none}
use Rattle.std.proofs.Math.Decide.{dec_lt}
use mathlib.Core.Logic.{dite}
use Rattle.std.proofs.lemmas.Bool.Decides.{nat_tests}
use lib.ListN.{get_elem?}
use Rattle.atomic_table.specs.Table.{State, Splits, Joins, opening}
use Rattle.atomic_table.proofs.Lists.{set_else}
use Rattle.dns_keeper.specs.declared.row.Row.{Row}
use Rattle.dns_keeper.specs.Keeping.{KeeperOf}
use Rattle.dns_ticket_lock.specs.declared.held.Member.{Member}
use Rattle.dns_ticket_lock.specs.declared.view.Account.{Account}
use Rattle.dns_ticket_lock.specs.declared.view.Phase.TheVariants.{Idle}
use Rattle.dns_ticket_lock.specs.declared.view.Terms.{Terms}
use Rattle.dns_ticket_lock.specs.declared.view.View.{View}
use Rattle.dns_ticket_lock.specs.Lists.{StartsWith, total, only_first, but_first}
use Rattle.dns_ticket_lock.specs.Places.{bearing, all_within}
use Rattle.dns_ticket_lock.specs.Shares.{share_of, marks_stand, last, new_member}
use Rattle.dns_ticket_lock.specs.Settling.{ClosedAs, HasTerms, Names}
use Rattle.dns_ticket_lock.specs.Passes.{PassSeen, ClosedFor, pass_faults}
use Rattle.dns_ticket_lock.specs.Naming.{NamesRows}
use Rattle.dns_book.specs.Book.{SeenOf, IsKept}
use Rattle.dns_ticket_lock.specs.Rule.{Naming, Fits, Meets, Clear, Apart, Kept, has_book, tickets, busy, size, fresh, first_view, spent, member_of, keeps_first, has_others, with_both, faults_of}
use Rattle.dns_ticket_lock.proofs.Totals.{total_set, total_snoc}
use Rattle.dns_ticket_lock.proofs.Seats.{within, at_append, same_at, all_set, all_snoc, apart_set, apart_snoc, has_ticket, home_stays, home_longer}

cut_length : {X : Type 0} (l : List X) → length (only_first l) + length (but_first l) ≡ length l
cut_length [] = refl
cut_length (x ∷ xs) = omega arith

one_first : {X : Type 0} (l : List X) → 0 < length l → length (only_first l) ≡ 1
one_first [] h = absurd (omega arith)
one_first (x ∷ xs) h = refl

at_first : {X : Type 0} (l : List X) (k : ℕ) (a : X) → get_elem? (only_first l) k ≡ some a → get_elem? l k ≡ some a
at_first [] k a e = e
at_first (x ∷ xs) zero a e = e
at_first (x ∷ xs) (suc k) a e = absurd (some-ne-none a (sym e))

at_others : {X : Type 0} (l : List X) (k : ℕ) (a : X) → get_elem? (but_first l) k ≡ some a → get_elem? l (suc k) ≡ some a
at_others [] k a e = absurd (some-ne-none a (sym e))
at_others (x ∷ xs) k a e = e

set_comm : {X : Type 0} (l : List X) (i j : ℕ) (a b : X) → i ≢ j → set (set l i a) j b ≡ set (set l j b) i a
set_comm [] i j a b n = refl
set_comm (x ∷ xs) zero zero a b n = absurd (n refl)
set_comm (x ∷ xs) zero (suc j) a b n = refl
set_comm (x ∷ xs) (suc i) zero a b n = refl
set_comm (x ∷ xs) (suc i) (suc j) a b n = ap (λ (l : List _). x ∷ l) (set_comm xs i j a b (λ e. n (ap suc e)))

pub drop_whole : {X : Type 0} (l : List X) → drop (length l) l ≡ []
drop_whole [] = refl
drop_whole (x ∷ xs) = drop_whole xs

at_replicate : {X : Type 0} (n : ℕ) (x : X) (k : ℕ) (a : X) → get_elem? (replicate n x) k ≡ some a → x ≡ a
at_replicate zero x k a e = absurd (some-ne-none a (sym e))
at_replicate (suc n) x zero a e = some-injective x a e
at_replicate (suc n) x (suc k) a e = at_replicate n x k a e

replicate_at : {X : Type 0} (n : ℕ) (x : X) (k : ℕ) → k < n → get_elem? (replicate n x) k ≡ some x
replicate_at zero x k h = absurd (omega arith)
replicate_at (suc n) x zero h = refl
replicate_at (suc n) x (suc k) h = replicate_at n x k (omega arith)

length_replicate : {X : Type 0} (n : ℕ) (x : X) → length (replicate n x) ≡ n
length_replicate zero x = refl
length_replicate (suc n) x = ap suc (length_replicate n x)

shares_are : (accounts : List Account) (members : List Member) → length members ≡ length accounts → ((k : ℕ) (a : Account) → get_elem? accounts k ≡ some a → get_elem? members k ≡ some (member_of a))
    → total share_of members ≡ total faults_of accounts
shares_are [] [] e at = refl
shares_are [] (m ∷ ms) e at = absurd (omega arith)
shares_are (a ∷ more) [] e at = absurd (omega arith)
shares_are (a ∷ more) (m ∷ ms) e at =
    let one : m.share ≡ a.faults = ap (λ (x : Member). x.share) (some-injective m (member_of a) (at 0 a refl)) in
    let others = shares_are more ms (omega arith) (λ k. at (suc k)) in omega arith

split_and : (a b : Bool) → (a && b) ≡ true → (a ≡ true) × (b ≡ true)
split_and true b e = (refl, e)
split_and false b e = absurd (grind arith)

mark_stands : (faults : ℕ) (ms : List Member) (k : ℕ) (m : Member) → marks_stand faults ms ≡ true → get_elem? ms k ≡ some m → m.mark ≡ true → faults ≡ last
mark_stands faults [] k m all e is = absurd (some-ne-none m (sym e))
mark_stands faults (x ∷ xs) zero m all e is =
    let here = (split_and (cond x.mark (faults == last) true) (marks_stand faults xs) all).0 in
    let marked : x.mark ≡ true = ap (λ (y : Member). y.mark) (some-injective x m e) ∙ is in
    let test : (faults == last) ≡ true = subst (λ (b : Bool). cond b (faults == last) true ≡ true) marked here in
    grind (arith, nat_tests)
mark_stands faults (x ∷ xs) (suc k) m all e is = mark_stands faults xs k m (split_and (cond x.mark (faults == last) true) (marks_stand faults xs) all).1 e is

-- what the accounts of all say of a book that has these rows and members
pub closed_as : {K : Type 0} (keeper : KeeperOf K) (t : Terms) (accounts : List Account) (book : SeenOf K) (rows : List Row) (members : List Member) → NamesRows keeper book rows → HasTerms t book
    → StartsWith rows t.rows → length members ≡ t.seats → length accounts ≡ t.seats
    → ((k : ℕ) (a : Account) → get_elem? accounts k ≡ some a → Meets t rows members k a)
    → t.start + total share_of members ≡ (keeper.told book.keeper).faults → all_within t.seats (drop (length t.rows) rows) ≡ true → marks_stand (keeper.told book.keeper).faults members ≡ true → ClosedAs keeper t accounts book
closed_as keeper t accounts book rows members named terms began many all meets sums numbered marked =
    let shares = shares_are accounts members (omega arith) (λ k a e. (meets k a e).member) in
    record {
      rows = rows;
      named = named;
      terms = terms;
      began = began;
      seen = λ k a e. (meets k a e).seen;
      places = λ k a e. (meets k a e).places;
      numbered = numbered;
      rise = omega arith;
      marked = λ k a e is. mark_stands (keeper.told book.keeper).faults members k (member_of a) marked (meets k a e).member is;
    }

-- what all passes say of a book that has these rows and members
pub closed_for : {K : Type 0} (keeper : KeeperOf K) (t : Terms) (passes : List PassSeen) (accounts : List Account) (book : SeenOf K) (rows : List Row) (members its_members : List Member) (its_start : ℕ)
    → Names keeper t rows members book its_members its_start → length members ≡ t.seats → StartsWith rows t.rows → all_within t.seats (drop (length t.rows) rows) ≡ true
    → ((k : ℕ) (a : Account) → get_elem? accounts k ≡ some a → Meets t rows members k a) → length accounts ≡ t.seats
    → its_start + total share_of its_members ≡ (keeper.told book.keeper).faults → marks_stand (keeper.told book.keeper).faults its_members ≡ true → IsKept keeper book
    → ((i : ℕ) (p : PassSeen) → get_elem? passes i ≡ some p → (k : ℕ) × (p.number ≡ k + 1) × (get_elem? accounts k ≡ some p.account)) → total pass_faults passes ≡ total faults_of accounts
    → ClosedFor keeper t passes book
closed_for keeper t passes accounts book rows members its_members its_start n many began numbered meets all sums marked stood found faults =
    let c = closed_as keeper t accounts book rows its_members n.has_rows n.same_terms began (ap (λ (l : List Member). length l) n.has_members ∙ many) all
    (λ k a e. subst (λ (ms : List Member). Meets t rows ms k a) (sym n.has_members) (meets k a e))
    (subst (λ (s : ℕ). s + total share_of its_members ≡ (keeper.told book.keeper).faults) n.same_start sums) numbered marked in
    record {
      stood = stood;
      terms = c.terms;
      rows = c.rows;
      named = c.named;
      began = c.began;
      seen = λ i p e. (let f = found i p e in c.seen f.0 p.account f.2);
      places = λ i p e. (let f = found i p e in ap (λ (number : ℕ). bearing number (length t.rows + 1) (drop (length t.rows) c.rows)) f.1 ∙ c.places f.0 p.account f.2);
      numbered = c.numbered;
      rise = ap (λ (f : ℕ). t.start + f) faults ∙ c.rise;
      marked = λ i p e. (let f = found i p e in c.marked f.0 p.account f.2);
    }

held_or : {H : Type 0} → H → Option H → H
held_or d None = d
held_or d (Some h) = h

pub some_is : {H : Type 0} (x y : H) → Some x ≡ Some y → x ≡ y
unfolding held_or
some_is x y e = ap (held_or x) e

module _ {H : Type 0} (N : Naming H) where
  abbrev Slot : Type 0
  Slot = Option H

  -- 5. a seat keeps its first account, and a new seat has the others
  pub splits : (t : Terms) (id : ℕ) (v : View) → v.phase ≡ Idle → 1 < length v.accounts → Splits (Kept N t) id v (keeps_first v) (has_others v)
  splits t id v rests more_own s kept at =
      let left = keeps_first v in
      let right = has_others v in
      let f = kept.fits id v at in
      let cut = cut_length v.accounts in
      let one : length left.accounts ≡ 1 = one_first v.accounts (omega arith) in
      let old_busy : busy v ≡ 0 = ap tickets rests in
      let left_busy : busy left ≡ 0 = ap tickets rests in
      let busy_at = total_set busy s.views id v left at in
      let size_at = total_set size s.views id v left at in
      let busy_more = total_snoc busy (set s.views id left) right in
      let size_more = total_snoc size (set s.views id left) right in
      let terms = f.terms (omega arith) in
      let left_fits : Fits t kept.queue kept.rows kept.members kept.serving id left = record {
        terms = λ own. terms;
        room = let r = f.room in omega arith;
        owns = omega arith;
        stands = λ b. absurd (b rests);
        meets = λ k a e. f.meets k a (at_first v.accounts k a e);
      } in
      let right_fits : (seat : ℕ) → Fits t kept.queue kept.rows kept.members kept.serving seat right = λ seat. record {
        terms = λ own. terms;
        room = let r = f.room in omega arith;
        owns = omega arith;
        stands = λ b. absurd (b refl);
        meets = λ k a e. subst (λ (i : ℕ). Meets t kept.rows kept.members i a) (omega arith) (f.meets (suc k) a (at_others v.accounts k a e));
      } in
      let left_apart : Apart (set s.views id left) = apart_set s.views id left
      (λ j x n bt k l small less e. kept.apart id j v x (λ same. n (sym same)) at bt k l (omega arith) less e) kept.apart in
      let right_clear : (j : ℕ) (x : View) → get_elem? (set s.views id left) j ≡ some x → Clear right x = all_set (λ j (x : View). Clear right x) s.views id left
      (λ j x n bt k l small less e. kept.apart id j v x (λ same. n (sym same)) at bt (k + 1) l (omega arith) less (omega arith))
      (λ k l small less e. omega arith) in
      record {
        next = kept.next;
        serving = kept.serving;
        queue = kept.queue;
        rows = kept.rows;
        members = kept.members;
        words = kept.words;
        drawn = kept.drawn;
        counted = let c = kept.counted in omega arith;
        seated = let m = kept.seated in omega arith;
        few = kept.few;
        opened = kept.opened;
        numbered = kept.numbered;
        many = kept.many;
        fits = all_snoc (Fits t kept.queue kept.rows kept.members kept.serving) (set s.views id left) right
            (all_set (Fits t kept.queue kept.rows kept.members kept.serving) s.views id left (λ seat x n e. kept.fits seat x e) left_fits) right_fits;
        apart = apart_snoc (set s.views id left) right right_clear left_apart;
        home = home_longer N t s.homes (set s.views id left) kept.rows kept.members right refl
            (home_stays N t s.homes s.views kept.rows kept.members id v left at (ap has_book rests) (ap has_book rests) kept.home);
      }

  -- 6. a seat takes in another, whose accounts follow its own
  pub joins : (t : Terms) (id : ℕ) (v : View) (other : ℕ) (w : View) → v.phase ≡ Idle → w.phase ≡ Idle → 0 < length v.accounts → v.low + length v.accounts ≡ w.low → Joins (Kept N t) id v other w (with_both v w) spent
  joins t id v other w rests too some_own follows s kept at apart bt =
      let both = with_both v w in
      let before = set s.views other spent in
      let at_w : get_elem? s.views other ≡ some w = sym (set_else s.views id other both apart) ∙ bt in
      let at_v : get_elem? before id ≡ some v = set_else s.views other id spent (λ same. apart (sym same)) ∙ at in
      let f = kept.fits id v at in
      let g = kept.fits other w at_w in
      let busy_v : busy v ≡ 0 = ap tickets rests in
      let busy_both : busy both ≡ 0 = ap tickets rests in
      let busy_w : busy w ≡ 0 = ap tickets too in
      let long : length both.accounts ≡ length v.accounts + length w.accounts = length-append v.accounts w.accounts in
      let busy_one = total_set busy s.views other w spent at_w in
      let size_one = total_set size s.views other w spent at_w in
      let busy_two = total_set busy before id v both at_v in
      let size_two = total_set size before id v both at_v in
      let F = Fits t kept.queue kept.rows kept.members kept.serving in
      let none_own : F other spent = record {
        terms = λ own. absurd (omega arith);
        room = omega arith;
        owns = omega arith;
        stands = λ b. absurd (b refl);
        meets = λ k a e. absurd (some-ne-none a (sym e));
      } in
      let mine : F id both = record {
        terms = λ own. f.terms some_own;
        room = let r = g.room in omega arith;
        owns = omega arith;
        stands = λ b. absurd (b rests);
        meets = λ k a e. ⊎_elim
            (λ old. f.meets k a old)
            (λ new. let is = new.1 in subst (λ (i : ℕ). Meets t kept.rows kept.members i a) (omega arith) (g.meets new.0 a new.2))
            (at_append v.accounts w.accounts k a e);
      } in
      let first : Apart before = apart_set s.views other spent (λ j x n e k l small less same. absurd (omega arith)) kept.apart in
      let clear : (j : ℕ) (x : View) → get_elem? before j ≡ some x → j ≢ id → Clear both x = all_set (λ j (x : View). j ≢ id → Clear both x) s.views other spent
      (λ j x n e m k l small less same. in_either x k l (omega arith) less same
      (kept.apart id j v x (λ is. m (sym is)) at e) (kept.apart other j w x (λ is. n (sym is)) at_w e))
      (λ m k l small less same. absurd (omega arith)) in
      let after : Kept N t (record { words = s.words; homes = s.homes; views = set before id both }) = record {
        next = kept.next;
        serving = kept.serving;
        queue = kept.queue;
        rows = kept.rows;
        members = kept.members;
        words = kept.words;
        drawn = kept.drawn;
        counted = let c = kept.counted in omega arith;
        seated = let m = kept.seated in omega arith;
        few = kept.few;
        opened = kept.opened;
        numbered = kept.numbered;
        many = kept.many;
        fits = all_set F before id both (λ seat x n e. all_set F s.views other spent (λ seat x n e. kept.fits seat x e) none_own seat x e) mine;
        apart = apart_set before id both (λ j x n e. clear j x e n) first;
        home = home_stays N t s.homes before kept.rows kept.members id v both at_v (ap has_book rests) (ap has_book rests)
            (home_stays N t s.homes s.views kept.rows kept.members other w spent at_w (ap has_book too) refl kept.home);
      } in
      subst (λ (views : List View). Kept N t (record { words = s.words; homes = s.homes; views = views })) (set_comm s.views other id spent both apart) after
    where
      in_either : (x : View) (k l : ℕ) → k < length v.accounts + length w.accounts → l < length x.accounts → v.low + k ≡ x.low + l → Clear v x → Clear w x → ⊥
      in_either x k l small less same one two = dite (dec_lt k (length v.accounts))
          (λ within. one k l within less same)
          (λ beyond. two (k - length v.accounts) l (omega arith) less (omega arith))

  -- 7. the start
  pub opens : (t : Terms) (n : ℕ) (h : H) (rows : List Row) (members : List Member) → n ≡ length rows → t.seats ≤ 1024 → N t rows members h → rows ≡ t.rows → members ≡ replicate t.seats new_member
      → Kept N t (opening (0 ∷ 0 ∷ n ∷ []) (Some h ∷ []) (first_view t))
  opens t n h rows members count_is few names all_rows new_members =
      let count = length_replicate t.seats (fresh t) in
      let meets : (k : ℕ) (a : Account) → get_elem? (replicate t.seats (fresh t)) k ≡ some a → Meets t rows members (0 + k) a = λ k a e.
      subst (Meets t rows members (0 + k)) (at_replicate t.seats (fresh t) k a e) (record {
        seen = ([], all_rows ∙ sym (append-nil t.rows));
        places = ap (bearing ((0 + k) + 1) (length t.rows + 1)) (ap (λ (l : List Row). drop (length l) rows) (sym all_rows) ∙ drop_whole rows);
        member = ap (λ (ms : List Member). get_elem? ms (0 + k)) new_members ∙ replicate_at t.seats new_member (0 + k) (let small = within (replicate t.seats (fresh t)) k a e in omega arith);
      }) in
      record {
        next = 0;
        serving = 0;
        queue = [];
        rows = rows;
        members = members;
        words = ap (λ (n : ℕ). 0 ∷ 0 ∷ n ∷ []) count_is;
        drawn = refl;
        counted = refl;
        seated = omega arith;
        few = few;
        opened = ([], all_rows ∙ sym (append-nil t.rows));
        numbered = ap (all_within t.seats) (ap (λ (l : List Row). drop (length l) rows) (sym all_rows) ∙ drop_whole rows);
        many = ap (λ (l : List Member). length l) new_members ∙ length_replicate t.seats new_member;
        fits = λ seat v e. alone seat v e (record {
          terms = λ some_own. refl;
          room = omega arith;
          owns = omega arith;
          stands = λ b. absurd (b refl);
          meets = meets;
        });
        apart = λ i j v w n at bt. absurd (n (only_one i v at ∙ sym (only_one j w bt)));
        home = inl (h, refl, names, λ seat w e. idle seat w e);
      }
    where
      only_one : (i : ℕ) (v : View) → get_elem? (first_view t ∷ []) i ≡ some v → i ≡ 0
      only_one zero v e = refl
      only_one (suc i) v e = absurd (some-ne-none v (sym e))

      alone : (seat : ℕ) (v : View) → get_elem? (first_view t ∷ []) seat ≡ some v → Fits t [] rows members 0 0 (first_view t) → Fits t [] rows members 0 seat v
      alone zero v e f = subst (Fits t [] rows members 0 0) (some-injective (first_view t) v e) f
      alone (suc k) v e f = absurd (some-ne-none v (sym e))

      idle : (seat : ℕ) (v : View) → get_elem? (first_view t ∷ []) seat ≡ some v → has_book v.phase ≡ false
      idle zero v e = ap (λ (y : View). has_book y.phase) (sym (some-injective (first_view t) v e))
      idle (suc k) v e = absurd (some-ne-none v (sym e))

  -- 8. where one seat has every account, no other has any, and the book is at home
  pub closes : (t : Terms) (s : State Slot View) → Kept N t s → (id : ℕ) (v : View) → get_elem? s.views id ≡ some v → v.phase ≡ Idle → v.low ≡ 0 → length v.accounts ≡ t.seats
      → (h : H) × (s.homes ≡ some (Some h) ∷ []) × (rows : List Row) × (members : List Member) × N t rows members h × (length members ≡ t.seats) × StartsWith rows t.rows × (all_within t.seats (drop (length t.rows) rows) ≡ true)
      × ((k : ℕ) (a : Account) → get_elem? v.accounts k ≡ some a → Meets t rows members k a)
  closes t s kept id v at rests lowest all = ⊎_elim
      (λ here. (here.0, here.1, kept.rows, kept.members, here.2, kept.many, kept.opened, kept.numbered, λ k a e. subst (λ (i : ℕ). Meets t kept.rows kept.members i a) (omega arith) ((kept.fits id v at).meets k a e)))
      (λ away.
      let holder = away.1 in
      let x = away.2 in
      let g = kept.fits holder x away.3 in
      let owns : busy x ≤ length x.accounts = g.owns in
      let is_busy : busy x ≡ 1 = has_ticket x.phase away.4 in
      let apart : id ≢ holder = λ same. true≢false (sym away.4 ∙ (ap (λ (y : View). has_book y.phase) (same_at s.views holder id x v (sym same) away.3 at) ∙ ap has_book rests)) in
      let room = g.room in
      absurd (kept.apart id holder v x apart at away.3 x.low 0 (omega arith) (omega arith) (omega arith)))
      kept.home
