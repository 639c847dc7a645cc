-- Each step keeps the rule.
use Rattle.std.proofs.Common.{◌≡◌, ◌≢◌, inl, inr, ⊎_elim, ℕ, zero, suc, ◌+◌, ◌%◌, ◌^◌, ◌<◌, ◌≤◌, ◌==◌, Bool, true, false, true≢false, List, [], ◌∷◌, ◌++◌, set, length, drop, slice_index, Option, Some, refl, sym, ap, subst, subst₂, ◌∙◌, arith}
use Rattle.std.proofs.lemmas.List.{length-append, length-set}
use Rattle.std.proofs.Math.Nat.{mod-add-mod, mod-eq_of_lt}
use mathlib.Core.Option.{some, none, some-injective, some-ne-none}
use Rattle.std.proofs.lemmas.Bool.{false_from_ne_true}
use Rattle.std.proofs.lemmas.Bool.Decides.{nat_tests}
use lib.ListN.{get_elem?}
use Rattle.atomic_table.specs.Table.{State, Me, step, Act, keeps, takes, gives, Allows, stepped, Valid, carried_after, rest}
use Rattle.atomic_table.proofs.Lists.{set_here, set_else, at_longer, at_last, one_turn, set_again}
use Rattle.dns_keeper.specs.declared.row.Row.{Row}
use Rattle.dns_ticket_lock.specs.declared.held.Member.{Member}
use Rattle.dns_ticket_lock.specs.declared.view.Account.{Account}
use Rattle.dns_ticket_lock.specs.declared.view.Phase.TheVariants.{Idle, Waiting, Holding, HasCounted}
use Rattle.dns_ticket_lock.specs.declared.view.Terms.{Terms}
use Rattle.dns_ticket_lock.specs.declared.view.View.{View}
use Rattle.dns_ticket_lock.specs.Lists.{StartsWith, with_head}
use Rattle.dns_ticket_lock.specs.Places.{places_from, places_of, listed, all_bear, all_within}
use Rattle.dns_ticket_lock.specs.Rule.{Naming, Fits, Stands, Meets, NoneHas, Kept, Done, IsDone, has_book, tickets, busy, size, waits, has, member_of, settled, with_member, has_counted, rests, FindsOwn, Draws, Takes, Looks, Counts, Passes}
use Rattle.dns_ticket_lock.proofs.Totals.{total_set, total_below}
use Rattle.dns_ticket_lock.proofs.Places.{still_bears, bears_more, numbered_after, places_of-append}
use Rattle.dns_ticket_lock.proofs.Seats.{begins_within, begins_more, begins_itself, within, same_at, all_set, apart_same, not_idle, has_ticket, home_stays, length_head, restand}

abbrev M : ℕ
M = 2 ^ 64

module _ {H : Type 0} (N : Naming H) where
  abbrev Slot : Type 0
  Slot = Option H

  -- the queue is shorter than the seats are many
  short : (t : Terms) (s : State Slot View) (k : Kept N t s) → length k.queue ≤ 1024
  short t s k = let small = total_below busy size s.views (λ i x e. (k.fits i x e).owns) in let c = k.counted in let m = k.seated in let f = k.few in omega arith

  longer_queue : (t : Terms) (queue : List ℕ) (rows : List Row) (members : List Member) (serving seat id : ℕ) (x : View) → Fits t queue rows members serving seat x → Fits t (queue ++ id ∷ []) rows members serving seat x
  longer_queue t queue rows members serving seat id x f =
      restand t queue (queue ++ id ∷ []) rows members serving serving seat x f
      (λ busy st. record { place = st.place; at = at_longer queue (id ∷ []) st.place seat st.at; ticket = st.ticket; first = st.first })

  -- 1. a seat draws a ticket
  pub draws : (t : Terms) (n id : ℕ) (v : View) → v.phase ≡ Idle → 0 < length v.accounts → Allows (Kept N t) n id (v, []) 0 (λ n. (n + 1) % 2 ^ 64) (Draws (step n 0 1 0 none) (v, []))
  draws t n id v rests some_own s kept slots at room =
      let w = waits kept.next v in
      let f = kept.fits id v at in
      let busy_at = total_set busy s.views id v w at in
      let size_at = total_set size s.views id v w at in
      let old_busy : busy v ≡ 0 = ap tickets rests in
      let mine : Fits t (kept.queue ++ id ∷ []) kept.rows kept.members kept.serving id w = record {
        terms = f.terms;
        room = f.room;
        owns = omega arith;
        stands = λ b. record { place = length kept.queue; at = at_last kept.queue id (length kept.queue) refl; ticket = kept.drawn; first = λ two. absurd (true≢false (sym two)) };
        meets = f.meets;
      } in
      let after : Kept N t (record { words = (kept.next + 1) % 2 ^ 64 ∷ kept.serving ∷ length kept.rows ∷ []; homes = s.homes; views = set s.views id w }) = record {
        next = (kept.next + 1) % 2 ^ 64;
        serving = kept.serving;
        queue = kept.queue ++ id ∷ [];
        rows = kept.rows;
        members = kept.members;
        words = refl;
        drawn = ap (λ (n : ℕ). (n + 1) % M) kept.drawn ∙ (mod-add-mod (kept.serving + length kept.queue) M 1 ∙ ap (λ (n : ℕ). n % M) (omega (arith, length-append kept.queue (id ∷ []))));
        counted = let c = kept.counted in omega (arith, length-append kept.queue (id ∷ []));
        seated = let m = kept.seated in omega arith;
        few = kept.few;
        opened = kept.opened;
        numbered = kept.numbered;
        many = kept.many;
        fits = all_set (Fits t (kept.queue ++ id ∷ []) kept.rows kept.members kept.serving) s.views id w
            (λ seat x n e. longer_queue t kept.queue kept.rows kept.members kept.serving seat id x (kept.fits seat x e)) mine;
        apart = apart_same s.views id v w at refl refl kept.apart;
        home = home_stays N t s.homes s.views kept.rows kept.members id v w at (ap has_book rests) refl kept.home;
      } in
      let P : List ℕ → Type 0 = λ ws. Kept N t (record { words = set ws 0 ((slice_index ws 0 + 1) % M); homes = s.homes; views = set s.views id w }) in
      let Q : List ℕ → Me Slot View = λ ws. (waits (slice_index ws 0) v, []) in
      (w, keeps, tt, subst P (sym kept.words) after, sym (ap Q kept.words))

  -- whoever has its turn stands first
  first_is : (place serving ticket len : ℕ) → place < len → len ≤ 1024 → serving < M → ticket ≡ (serving + place) % M → serving ≡ ticket → place ≡ 0
  first_is place serving ticket len within few fits is same =
      let one = one_turn serving (serving + place) M (omega arith) (omega arith) (mod-eq_of_lt fits ∙ (same ∙ is)) in omega arith

  based : (t : Terms) (s : State Slot View) (k : Kept N t s) → Kept N t (record { words = k.next ∷ k.serving ∷ length k.rows ∷ []; homes = s.homes; views = s.views })
  based t s k = record { next = k.next; serving = k.serving; queue = k.queue; rows = k.rows; members = k.members; words = refl; drawn = k.drawn; counted = k.counted; seated = k.seated; few = k.few; opened = k.opened; numbered = k.numbered; many = k.many; fits = k.fits; apart = k.apart; home = k.home }

  -- one that has the book stands first
  stands_first : (t : Terms) (s : State Slot View) (k : Kept N t s) (id : ℕ) (v : View) → get_elem? s.views id ≡ some v → has_book v.phase ≡ true → get_elem? k.queue 0 ≡ some id
  stands_first t s k id v at two =
      let st = (k.fits id v at).stands (not_idle v.phase (has_ticket v.phase two)) in
      ap (get_elem? k.queue) (sym (st.first two)) ∙ st.at

  -- where a seat has the book, it is out, and the seat's view names what it was
  holder_is : (t : Terms) (s : State Slot View) (k : Kept N t s) (id : ℕ) (v : View) → get_elem? s.views id ≡ some v → has_book v.phase ≡ true → (s.homes ≡ none ∷ []) × (v.rows ≡ k.rows) × (v.members ≡ k.members)
  holder_is t s k id v at two = ⊎_elim
      (λ here. absurd (true≢false (sym two ∙ here.3 id v at)))
      (λ away.
      let one : away.1 ≡ id = some-injective away.1 id (sym (stands_first t s k away.1 away.2 away.3 away.4) ∙ stands_first t s k id v at two) in
      let same : away.2 ≡ v = same_at s.views away.1 id away.2 v one away.3 at in
      (away.0, ap (λ (y : View). y.rows) (sym same) ∙ away.5, ap (λ (y : View). y.members) (sym same) ∙ away.6))
      k.home

  finds_own : (t : Terms) (rows : List Row) (members : List Member) (low : ℕ) (own : List Account) → ((k : ℕ) (a : Account) → get_elem? own k ≡ some a → Meets t rows members (low + k) a) → FindsOwn own low rows members
  finds_own t rows members low [] meets = tt
  finds_own t rows members low (a ∷ more) meets =
      let m = meets 0 a refl in
      (m.seen, subst (λ (i : ℕ). get_elem? members i ≡ some (member_of a)) (omega arith) m.member)

  -- the seat whose turn it is takes the book
  takes_it : (t : Terms) (id : ℕ) (v : View) → v.phase ≡ Waiting → (s : State Slot View) (kept : Kept N t s) → get_elem? s.views id ≡ some v → kept.serving ≡ v.ticket → kept.serving < M
      → (h : H) × (s.homes ≡ some (Some h) ∷ []) × Takes N v kept.rows kept.members h
      × Kept N t (record { words = kept.next ∷ kept.serving ∷ length kept.rows ∷ []; homes = none ∷ []; views = set s.views id (has kept.rows kept.members v) })
  takes_it t id v phase s kept at same small =
      let f = kept.fits id v at in
      let old_busy : busy v ≡ 1 = ap tickets phase in
      let st = f.stands (not_idle v.phase old_busy) in
      let first = first_is st.place kept.serving v.ticket (length kept.queue) (within kept.queue st.place id st.at) (short t s kept) small st.ticket same in
      let some_own : 0 < length v.accounts = let o = f.owns in omega arith in
      ⊎_elim
      (λ here.
      let h = here.0 in
      let w = has kept.rows kept.members v in
      let n = here.2 in
      let busy_at = total_set busy s.views id v w at in
      let size_at = total_set size s.views id v w at in
      let mine : Fits t kept.queue kept.rows kept.members kept.serving id w = record {
        terms = f.terms;
        room = f.room;
        owns = omega arith;
        stands = λ b. record { place = st.place; at = st.at; ticket = st.ticket; first = λ two. first };
        meets = f.meets;
      } in
      let after : Kept N t (record { words = kept.next ∷ kept.serving ∷ length kept.rows ∷ []; homes = none ∷ []; views = set s.views id w }) = record {
        next = kept.next;
        serving = kept.serving;
        queue = kept.queue;
        rows = kept.rows;
        members = kept.members;
        words = refl;
        drawn = kept.drawn;
        counted = let c = kept.counted in omega arith;
        seated = let m = kept.seated in omega arith;
        few = kept.few;
        opened = kept.opened;
        numbered = kept.numbered;
        many = kept.many;
        fits = all_set (Fits t kept.queue kept.rows kept.members kept.serving) s.views id w (λ seat x n e. kept.fits seat x e) mine;
        apart = apart_same s.views id v w at refl refl kept.apart;
        home = inr (refl, id, w, set_here s.views id w (within s.views id v at), refl, refl, refl);
      } in
      let terms = f.terms some_own in
      let named : N v.terms kept.rows kept.members h = subst (λ (x : Terms). N x kept.rows kept.members h) (sym terms) n in
      let own : FindsOwn v.accounts v.low kept.rows kept.members = finds_own t kept.rows kept.members v.low v.accounts f.meets in
      (h, here.1, (named, own), after))
      (λ away.
      let other = (kept.fits away.1 away.2 away.3).stands (not_idle away.2.phase (has_ticket away.2.phase away.4)) in
      let holder = same_at kept.queue st.place other.place id away.1 (first ∙ sym (other.first away.4)) st.at other.at in
      let one = same_at s.views id away.1 v away.2 holder at away.3 in
      absurd (true≢false (sym away.4 ∙ (ap (λ (y : View). has_book y.phase) (sym one) ∙ ap has_book phase))))
      kept.home

  -- 2. a seat looks whether it is its turn, and takes the book then
  pub looks : (t : Terms) (n id : ℕ) (v : View) → v.phase ≡ Waiting → Allows (Kept N t) n id (v, []) 1 (λ n. n) (Looks N (step n 1 0 0 none) (v, []))
  looks t n id v phase s kept slots at room = looks_by (slice_index s.words 1 == v.ticket) refl
    where
      looks_by : (hit : Bool) → (slice_index s.words 1 == v.ticket) ≡ hit
          → (w : View) × (a : Act Slot) × Valid s.homes [] a × Kept N t (stepped s 1 (slice_index s.words 1) id [] w a) × Looks N (step n 1 0 0 none) (v, []) (slice_index s.words 1) (w, carried_after [] a)
      looks_by false miss =
          let P : List ℕ → List View → Type 0 = λ ws vs. Kept N t (record { words = set ws 1 (slice_index ws 1); homes = s.homes; views = vs }) in
          (v, keeps, tt, subst₂ P (sym kept.words) (sym (set_again s.views id v at)) (based t s kept), rw miss refl)
      looks_by true hit =
          let now : slice_index s.words 1 ≡ kept.serving = ap (λ (ws : List ℕ). slice_index ws 1) kept.words in
          let turn : slice_index s.words 1 ≡ v.ticket = grind (arith, nat_tests) in
          let got = takes_it t id v phase s kept at (sym now ∙ turn) (omega arith) in
          let w = has kept.rows kept.members v in
          let P : List ℕ → List (mathlib.Core.Option.Option Slot) → Type 0 = λ ws hs. Kept N t (record { words = set ws 1 (slice_index ws 1); homes = set hs 0 none; views = set s.views id w }) in
          let V : List (mathlib.Core.Option.Option Slot) → Type 0 = λ hs. get_elem? hs 0 ≡ some (some (Some got.0)) in
          (w, takes 0 (Some got.0), subst V (sym got.1) refl, subst₂ P (sym kept.words) (sym got.1) got.3, rw hit (got.0, kept.rows, kept.members, refl, got.2))

  members_length : (own : List Account) (low : ℕ) (ms : List Member) → length (with_member own low ms) ≡ length ms
  members_length [] low ms = refl
  members_length (a ∷ more) low ms = length-set ms low (member_of a)

  -- another account, while the account of the number low + 1 settles
  other_meets : (t : Terms) (rows : List Row) (members : List Member) (batch : List Row) (low : ℕ) (now : Member) (i : ℕ) (a : Account) → length t.rows ≤ length rows → all_bear (low + 1) batch ≡ true → i ≢ low
      → Meets t rows members i a → Meets t (rows ++ batch) (set members low now) i a
  other_meets t rows members batch low now i a opened theirs apart m = record {
    seen = begins_more rows a.seen (rows ++ batch) (batch, refl) m.seen;
    places = still_bears (i + 1) (low + 1) (length t.rows + 1) (length t.rows) rows batch (λ same. apart (omega arith)) opened theirs ∙ m.places;
    member = set_else members low i now apart ∙ m.member;
  }

  module _ (t : Terms) (rows : List Row) (members : List Member) (done : Done) (low : ℕ) (opened : length t.rows ≤ length rows) (fit : IsDone (low + 1) rows done) where
    abbrev members_after : List Account → List Member
    members_after own = with_member (with_head (settled rows done) own) low members

    others_meet : (own : List Account) → 0 < length own → (i : ℕ) (a : Account) → i ≢ low → Meets t rows members i a → Meets t (rows ++ done.batch) (members_after own) i a
    others_meet [] some_own i a apart m = absurd (omega arith)
    others_meet (b ∷ more) some_own i a apart m = other_meets t rows members done.batch low (member_of (settled rows done b)) i a opened fit.theirs apart m

    own_meet : (own : List Account) → ((k : ℕ) (a : Account) → get_elem? own k ≡ some a → Meets t rows members (low + k) a) → (k : ℕ) (a : Account) → get_elem? (with_head (settled rows done) own) k ≡ some a
        → Meets t (rows ++ done.batch) (members_after own) (low + k) a
    own_meet [] meets k a e = absurd (some-ne-none a (sym e))
    own_meet (b ∷ more) meets zero a e =
        let now = settled rows done b in
        let m : Meets t rows members low b = subst (λ (i : ℕ). Meets t rows members i b) (omega arith) (meets 0 b refl) in
        let mine : Meets t (rows ++ done.batch) (set members low (member_of now)) low now = record {
          seen = begins_itself (rows ++ done.batch);
          places = bears_more (low + 1) (length t.rows) rows done.batch opened fit.theirs
              ∙ (ap (λ (l : List ℕ). l ++ places_from (length rows + 1) (length done.batch)) m.places
              ∙ (ap (λ (l : List ℕ). places_of b.receipts ++ l) (sym fit.places) ∙ sym (places_of-append b.receipts (listed done.receipt))));
          member = set_here members low (member_of now) (within members low (member_of b) m.member);
        } in
        subst₂ (λ (i : ℕ) (x : Account). Meets t (rows ++ done.batch) (set members low (member_of now)) i x) (omega arith) (some-injective now a e) mine
    own_meet (b ∷ more) meets (suc k) a e =
        other_meets t rows members done.batch low (member_of (settled rows done b)) (low + suc k) a opened fit.theirs (λ same. absurd (omega arith)) (meets (suc k) a e)

  -- 3. the seat that has the book counts its batch and its faults
  pub counts : (t : Terms) (n id : ℕ) (me : Me Slot View) (done : Done) (k : ℕ) → me.0.phase ≡ Holding → IsDone (me.0.low + 1) me.0.rows done → k ≡ length done.batch → length me.0.rows + length done.batch < M
      → Allows (Kept N t) n id me 2 (λ n. (n + k) % 2 ^ 64) (Counts done (step n 2 k 0 none) me)
  counts t n id me done k phase fit many small s kept slots at room =
      let v = me.0 in
      let w = has_counted done v in
      let f = kept.fits id v at in
      let out = holder_is t s kept id v at (ap has_book phase) in
      let old_busy : busy v ≡ 1 = ap tickets phase in
      let some_own : 0 < length v.accounts = let o = f.owns in omega arith in
      let size_is : length w.accounts ≡ length v.accounts = length_head (settled v.rows done) v.accounts in
      let busy_at = total_set busy s.views id v w at in
      let size_at = total_set size s.views id v w at in
      let began : StartsWith v.rows t.rows = subst (λ (l : List Row). StartsWith l t.rows) (sym out.1) kept.opened in
      let opened : length t.rows ≤ length v.rows = begins_within v.rows t.rows began in
      let st = f.stands (not_idle v.phase old_busy) in
      let meets : (seat : ℕ) (x : View) → get_elem? s.views seat ≡ some x → (k : ℕ) (a : Account) → get_elem? x.accounts k ≡ some a → Meets t v.rows v.members (x.low + k) a =
      λ seat x e. subst₂ (λ (rows : List Row) (members : List Member). (k : ℕ) (a : Account) → get_elem? x.accounts k ≡ some a → Meets t rows members (x.low + k) a) (sym out.1) (sym out.2) (kept.fits seat x e).meets in
      let mine : Fits t kept.queue (v.rows ++ done.batch) w.members kept.serving id w = record {
        terms = λ own. f.terms some_own;
        room = let r = f.room in omega arith;
        owns = omega arith;
        stands = λ b. record { place = st.place; at = st.at; ticket = st.ticket; first = λ two. st.first (ap has_book phase) };
        meets = own_meet t v.rows v.members done v.low opened fit v.accounts (meets id v at);
      } in
      let others : (seat : ℕ) (x : View) → seat ≢ id → get_elem? s.views seat ≡ some x → Fits t kept.queue (v.rows ++ done.batch) w.members kept.serving seat x = λ seat x n e.
      let g = kept.fits seat x e in
      record {
        terms = g.terms;
        room = g.room;
        owns = g.owns;
        stands = g.stands;
        meets = λ k a at_a. others_meet t v.rows v.members done v.low opened fit v.accounts some_own (x.low + k) a
            (λ same. kept.apart seat id x v n e at k 0 (within x.accounts k a at_a) some_own (omega arith)) (meets seat x e k a at_a);
      } in
      let long : length (v.rows ++ done.batch) ≡ (length kept.rows + k) % M = let same = ap (λ (l : List Row). length l) out.1 in
      omega (arith, length-append v.rows done.batch, mod-eq_of_lt {n = length kept.rows + k} {m = M} (omega arith)) in
      let after : Kept N t (record { words = kept.next ∷ kept.serving ∷ (length kept.rows + k) % M ∷ []; homes = s.homes; views = set s.views id w }) = record {
        next = kept.next;
        serving = kept.serving;
        queue = kept.queue;
        rows = v.rows ++ done.batch;
        members = w.members;
        words = ap (λ (j : ℕ). kept.next ∷ kept.serving ∷ j ∷ []) (sym long);
        drawn = kept.drawn;
        counted = let c = kept.counted in omega arith;
        seated = let m = kept.seated in omega arith;
        few = kept.few;
        opened = begins_more v.rows t.rows (v.rows ++ done.batch) (done.batch, refl) began;
        numbered = numbered_after t.seats v.low (length t.rows) v.rows done.batch (let r = f.room in omega arith) opened fit.theirs
            (subst (λ (l : List Row). all_within t.seats (drop (length t.rows) l) ≡ true) (sym out.1) kept.numbered);
        many = members_length w.accounts v.low v.members ∙ (ap (λ (l : List Member). length l) out.2 ∙ kept.many);
        fits = all_set (Fits t kept.queue (v.rows ++ done.batch) w.members kept.serving) s.views id w others mine;
        apart = apart_same s.views id v w at refl size_is kept.apart;
        home = inr (out.0, id, w, set_here s.views id w (within s.views id v at), refl, refl, refl);
      } in
      let P : List ℕ → Type 0 = λ ws. Kept N t (record { words = set ws 2 ((slice_index ws 2 + k) % M); homes = s.homes; views = set s.views id w }) in
      (w, keeps, tt, subst P (sym kept.words) after, refl)

  -- the queue without its first, where a seat stood further behind
  one_nearer : (id : ℕ) (queue rest : List ℕ) (serving seat : ℕ) (x : View) → queue ≡ id ∷ rest → seat ≢ id → Stands queue serving seat x → Stands rest ((serving + 1) % M) seat x
  one_nearer id queue rest serving seat x is apart st = one_nearer_at st.place refl
    where
      one_nearer_at : (place : ℕ) → st.place ≡ place → Stands rest ((serving + 1) % M) seat x
      one_nearer_at zero here =
          absurd (apart (same_at queue st.place 0 seat id here st.at (ap (λ (q : List ℕ). get_elem? q 0) is)))
      one_nearer_at (suc k) here =
          record {
            place = k;
            at = ap (λ (q : List ℕ). get_elem? q (suc k)) (sym is) ∙ (ap (get_elem? queue) (sym here) ∙ st.at);
            ticket = st.ticket ∙ (ap (λ (n : ℕ). (serving + n) % M) here ∙ (ap (λ (n : ℕ). n % M) (omega arith) ∙ sym (mod-add-mod (serving + 1) M k)));
            first = λ two. let z = st.first two in absurd (omega arith);
          }

  first_of : (queue : List ℕ) (id : ℕ) → get_elem? queue 0 ≡ some id → (rest : List ℕ) × (queue ≡ id ∷ rest) × (length queue ≡ length rest + 1)
  first_of [] id at = absurd (some-ne-none id (sym at))
  first_of (x ∷ xs) id at = (xs, ap (λ (y : ℕ). y ∷ xs) (some-injective x id at), omega arith)

  -- 4. the seat gives the book back, and the turn to the next
  pub passes : (t : Terms) (n id : ℕ) (v : View) (h : H) → v.phase ≡ HasCounted → N v.terms v.rows v.members h
      → Allows (Kept N t) n id (v, (0, Some h) ∷ []) 1 (λ n. (n + 1) % 2 ^ 64) (Passes (step n 1 1 0 none) (v, (0, Some h) ∷ []))
  passes t n id v h phase names s kept slots at room =
      let two : has_book v.phase ≡ true = ap has_book phase in
      let f = kept.fits id v at in
      let out = holder_is t s kept id v at two in
      let rest = first_of kept.queue id (stands_first t s kept id v at two) in
      let w = rests v in
      let old_busy : busy v ≡ 1 = ap tickets phase in
      let some_own : 0 < length v.accounts = let o = f.owns in omega arith in
      let terms = f.terms some_own in
      let busy_at = total_set busy s.views id v w at in
      let size_at = total_set size s.views id v w at in
      let len = rest.2 in
      let mine : Fits t rest.0 kept.rows kept.members ((kept.serving + 1) % M) id w =
      record { terms = f.terms; room = f.room; owns = omega arith; stands = λ b. absurd (b refl); meets = f.meets } in
      let named : N t kept.rows kept.members h =
      subst (λ (x : Terms). N x kept.rows kept.members h) terms (subst₂ (λ (rows : List Row) (members : List Member). N v.terms rows members h) out.1 out.2 names) in
      let none_has : NoneHas (set s.views id w) = all_set (λ seat (x : View). has_book x.phase ≡ false) s.views id w
      (λ seat x n e. false_from_ne_true (has_book x.phase) (λ two_x. n (some-injective seat id (sym (stands_first t s kept seat x e two_x) ∙ stands_first t s kept id v at two)))) refl in
      let after : Kept N t (record { words = kept.next ∷ (kept.serving + 1) % M ∷ length kept.rows ∷ []; homes = some (Some h) ∷ []; views = set s.views id w }) = record {
        next = kept.next;
        serving = (kept.serving + 1) % M;
        queue = rest.0;
        rows = kept.rows;
        members = kept.members;
        words = refl;
        drawn = kept.drawn ∙ (ap (λ (n : ℕ). n % M) (omega arith) ∙ sym (mod-add-mod (kept.serving + 1) M (length rest.0)));
        counted = let c = kept.counted in omega arith;
        seated = let m = kept.seated in omega arith;
        few = kept.few;
        opened = kept.opened;
        numbered = kept.numbered;
        many = kept.many;
        fits = all_set (Fits t rest.0 kept.rows kept.members ((kept.serving + 1) % M)) s.views id w
            (λ seat x n e. restand t kept.queue rest.0 kept.rows kept.members kept.serving ((kept.serving + 1) % M) seat x (kept.fits seat x e)
            (λ busy st. one_nearer id kept.queue rest.0 kept.serving seat x rest.1 n st)) mine;
        apart = apart_same s.views id v w at refl refl kept.apart;
        home = inl (h, refl, named, none_has);
      } in
      let P : List ℕ → List (mathlib.Core.Option.Option Slot) → Type 0 = λ ws hs. Kept N t (record { words = set ws 1 ((slice_index ws 1 + 1) % M); homes = set hs 0 (some (Some h)); views = set s.views id w }) in
      (w, gives, tt, subst₂ P (sym kept.words) (sym out.0) after, refl)

  pub draws_me : (t : Terms) (n id : ℕ) (me : Me Slot View) → me.1 ≡ [] → me.0.phase ≡ Idle → 0 < length me.0.accounts → Allows (Kept N t) n id me 0 (λ n. (n + 1) % 2 ^ 64) (Draws (step n 0 1 0 none) me)
  draws_me t n id me bare rests some_own =
      subst (λ (c : List (ℕ × Slot)). Allows (Kept N t) n id (me.0, c) 0 (λ n. (n + 1) % 2 ^ 64) (Draws (step n 0 1 0 none) (me.0, c))) (sym bare) (draws t n id me.0 rests some_own)

  pub looks_me : (t : Terms) (n id : ℕ) (me : Me Slot View) → me.1 ≡ [] → me.0.phase ≡ Waiting → Allows (Kept N t) n id me 1 (λ n. n) (Looks N (step n 1 0 0 none) me)
  looks_me t n id me bare phase =
      subst (λ (c : List (ℕ × Slot)). Allows (Kept N t) n id (me.0, c) 1 (λ n. n) (Looks N (step n 1 0 0 none) (me.0, c))) (sym bare) (looks t n id me.0 phase)

  pub passes_me : (t : Terms) (n id : ℕ) (me : Me Slot View) (h : H) → me.1 ≡ (0, Some h) ∷ [] → me.0.phase ≡ HasCounted → N me.0.terms me.0.rows me.0.members h
      → Allows (Kept N t) n id me 1 (λ n. (n + 1) % 2 ^ 64) (Passes (step n 1 1 0 none) me)
  passes_me t n id me h bare phase names =
      subst (λ (c : List (ℕ × Slot)). Allows (Kept N t) n id (me.0, c) 1 (λ n. (n + 1) % 2 ^ 64) (Passes (step n 1 1 0 none) (me.0, c))) (sym bare) (passes t n id me.0 h phase names)

  -- what an exchange gives, of a seat that has the one slot
  pub gave : (was : List (ℕ × Slot)) (h : H) (got : Slot) → was ≡ (0, Some h) ∷ [] → was ≡ (0, got) ∷ rest was → got ≡ Some h
  gave was h got has is = let e = sym is ∙ has in ap (λ (xs : List (ℕ × Slot)). first_slot got xs) e
    where
      first_slot : Slot → List (ℕ × Slot) → Slot
      first_slot d [] = d
      first_slot d (x ∷ xs) = x.1
