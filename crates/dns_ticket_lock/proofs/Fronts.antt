-- Messages that are settled in one turn.
use Rattle.std.proofs.Common.{◌≡◌, ◌⊎◌, inl, inr, ⊎_elim, ℕ, zero, suc, ◌+◌, ◌<◌, ◌||◌, Bool, true, false, Option, Some, None, Result, Ok, Err, IfOk, OnOk, OnErr, List, [], ◌∷◌, ◌++◌, map, length, refl, sym, ap, subst, ◌∙◌, arith}
use Rattle.std.proofs.lemmas.List.{append-nil}
use Rattle.dns_io.specs.Told.{Rose, Told as ToldOf}
use Rattle.dns_keeper.specs.declared.row.Row.{Row}
use Rattle.dns_keeper.specs.Keeping.{KeeperOf}
use Rattle.dns_book.specs.Access.{Access}
use Rattle.dns_book.specs.declared.ask.Ask.{Ask}
use Rattle.dns_book.specs.declared.ask.Receipt.{Receipt}
use Rattle.dns_book.specs.declared.ask.Settled.{Settled}
use Rattle.dns_book.specs.declared.ask.SettledInto.{SettledInto}
use Rattle.dns_book.specs.Into.{SettlesInto}
use Rattle.dns_book.specs.Book.{SeenOf, Settles, IsLeft}
use Rattle.dns_book.proofs.IntoBuffer.{into_map}
use Rattle.dns_server_core.specs.FrameRuns.{AddsFront, Halts, first_asks, first_messages}
use Rattle.dns_server_core.proofs.LongerRuns.{Adds-one, AddsFront-none, AddsFront-more, AddsFront-halts, Halts-skips}
use Rattle.dns_ticket_lock.specs.declared.held.Told.{Told}
use Rattle.dns_ticket_lock.specs.declared.held.Member.{Member}
use Rattle.dns_ticket_lock.specs.declared.view.Account.{Account}
use Rattle.dns_ticket_lock.specs.declared.view.Terms.{Terms}
use Rattle.dns_ticket_lock.specs.Fronts.{nothing_told}
use Rattle.dns_ticket_lock.specs.Lists.{StartsWith, with_head}
use Rattle.dns_ticket_lock.specs.Places.{listed, places_of, places_from}
use Rattle.dns_ticket_lock.specs.Naming.{NamesRows, IsBatch, Advances}
use Rattle.dns_ticket_lock.specs.Rule.{Done, FindsOwn, own, settled}
use Rattle.dns_ticket_lock.specs.Settling.{HasTerms, SettledAs, LeftAs, done_by}
use Rattle.dns_ticket_lock.proofs.Advancing.{no_batch, keeps_itself}
use Rattle.dns_ticket_lock.proofs.Turning.{IsTurn, turn_of, settles_one, leaves_one}

-- where there is no receipt, no row came
pub none_came : (place count : ℕ) → [] ≡ places_from place count → count ≡ 0
none_came place zero e = refl
none_came place (suc count) e = absurd (grind (arith, e))

nil_of : {A : Type 0} (l : List A) → length l ≡ 0 → l ≡ []
nil_of [] e = refl
nil_of (x ∷ xs) e = absurd (omega (arith, e))

or_false : (b : Bool) → (b || false) ≡ b
or_false true = refl
or_false false = refl

-- an account of which nothing was done but that it has seen the rows
still : (rows : List Row) (a : Account) (done : Done) → done.batch ≡ [] → done.receipt ≡ None → done.rise ≡ 0 → done.mark ≡ false → settled rows done a ≡ record a { seen = rows }
still rows a done batch receipt rise mark =
    let faults : a.faults + 0 ≡ a.faults = omega arith in
    rw batch (rw receipt (rw rise (rw mark (rw (append-nil rows) (rw (append-nil a.receipts) (rw faults (rw (or_false a.marked) refl)))))))

no_rows_then : (number count : ℕ) (before between after : Option (List Row)) → ToldOf (IsBatch number 0) before between → ToldOf (IsBatch number count) between after → ToldOf (IsBatch number count) before after
no_rows_then number count before between None p q = tt
no_rows_then number count before None (Some z) p q = absurd q
no_rows_then number count None (Some y) (Some z) p q = absurd p
no_rows_then number count (Some x) (Some y) (Some z) p q = record {
  batch = q.batch;
  grown = q.grown ∙ ap (λ (l : List Row). l ++ q.batch) (p.grown ∙ ap (λ (l : List Row). x ++ l) (nil_of p.batch p.many) ∙ append-nil x);
  many = q.many;
  theirs = q.theirs;
}

-- what is said of an answer that was found
pub if_ok : {T E : Type 0} (r : Result T E) (x : T) (P : T → Type 0) → r ≡ Ok x → IfOk r P → P x
if_ok r x P e i = subst (λ (q : Result _ _). IfOk q P) e i

pub on_err : {T E : Type 0} (r : Result T E) (x : E) (P : Type 0) → r ≡ Err x → OnErr r P → P
on_err r x P e i = subst (λ (q : Result _ _). OnErr q P) e i

pub ok_map : {T E : Type 0} (r : Result T E) (P Q : T → Type 0) → ((x : T) → P x → Q x) → IfOk r P → IfOk r Q
ok_map (Ok x) P Q step i = step x i
ok_map (Err x) P Q step i = tt

pub on_ok_map : {T E : Type 0} (r : Result T E) (P Q : Type 0) → (P → Q) → OnOk r P → OnOk r Q
on_ok_map (Ok x) P Q step i = step i
on_ok_map (Err x) P Q step i = tt

pub on_err_map : {T E : Type 0} (r : Result T E) (P Q : Type 0) → (P → Q) → OnErr r P → OnErr r Q
on_err_map (Ok x) P Q step i = tt
on_err_map (Err x) P Q step i = step i

-- the first account of some
pub own_begins : (accounts : List Account) (low : ℕ) (rows : List Row) (members : List Member) → 0 < length accounts → FindsOwn accounts low rows members → StartsWith rows (own accounts).seen
own_begins [] low rows members some_own f = absurd (omega arith)
own_begins (a ∷ more) low rows members some_own f = f.0

pub own_head : (accounts : List Account) (f : Account → Account) → 0 < length accounts → own (with_head f accounts) ≡ f (own accounts)
own_head [] f some_own = absurd (omega arith)
own_head (a ∷ more) f some_own = refl

module _ {K : Type 0} (keeper : KeeperOf K) where
  pub nothing_came : (number : ℕ) (book : SeenOf K) → Advances keeper number book None 0 book
  nothing_came number book = record {
    rows = no_batch (keeper.told book.keeper).rows (keeper.told book.keeper).rows number (keeps_itself (keeper.told book.keeper).rows);
    counted = omega arith;
    places = refl;
    origin = refl;
    updates = refl;
    faults = omega arith;
  }

  -- nothing came, and then this
  pub came_then : (number count : ℕ) (before between after : SeenOf K) (receipt : Option Receipt) → Advances keeper number before None 0 between → Advances keeper number between receipt count after
      → Advances keeper number before receipt count after
  came_then number count before between after receipt p q =
      let same : between.row_count ≡ before.row_count = (let e = p.counted in omega arith) in
      record {
        rows = no_rows_then number count (keeper.told before.keeper).rows (keeper.told between.keeper).rows (keeper.told after.keeper).rows p.rows q.rows;
        counted = q.counted ∙ ap (λ (n : ℕ). n + count) same;
        places = q.places ∙ ap (λ (n : ℕ). places_from (n + 1) count) same;
        origin = q.origin ∙ p.origin;
        updates = q.updates ∙ p.updates;
        faults = (let x = p.faults in let y = q.faults in omega arith);
      }

  -- the rows are named as before where nothing came
  named_still : (number : ℕ) (rows : List Row) (book later : SeenOf K) → NamesRows keeper book rows → Advances keeper number book None 0 later → NamesRows keeper later rows
  named_still number rows book later named step =
      let turn : IsTurn keeper number rows book later nothing_told = turn_of keeper number rows book later nothing_told named step in
      let none : (done_by keeper number rows later nothing_told).batch ≡ [] = nil_of _ (sym turn.many) in
      subst (λ (l : List Row). NamesRows keeper later l) (ap (λ (l : List Row). rows ++ l) none ∙ append-nil rows) turn.named

  -- after so many messages of which nothing came: the account is this
  pub record IsNow (messages : ℕ) (rows : List Row) (a now : Account) : Type 0 where
    pub none : messages ≡ 0 → now ≡ a
    pub some : 0 < messages → now ≡ record a { seen = rows }

  either : (messages : ℕ) (rows : List Row) (a now : Account) → IsNow messages rows a now → (now ≡ a) ⊎ (now ≡ record a { seen = rows })
  either zero rows a now is = inl (is.none refl)
  either (suc messages) rows a now is = inr (is.some (omega arith))

  begins_now : (messages : ℕ) (rows : List Row) (a now : Account) → IsNow messages rows a now → StartsWith rows a.seen → StartsWith rows now.seen
  begins_now messages rows a now is begins =
      ⊎_elim (λ e. subst (λ (x : Account). StartsWith rows x.seen) (sym e) begins) (λ e. subst (λ (x : Account). StartsWith rows x.seen) (sym e) ([], sym (append-nil rows))) (either messages rows a now is)

  settled_now : (messages : ℕ) (rows : List Row) (a now : Account) (done : Done) → IsNow messages rows a now → settled rows done now ≡ settled rows done a
  settled_now messages rows a now done is = ⊎_elim (λ e. ap (settled rows done) e) (λ e. ap (settled rows done) e) (either messages rows a now is)

  module _ (access : Access) (ask : Ask) where
    abbrev by_account : Terms → Account → Ask → Settled → Account → Type 0
    by_account t = SettledAs keeper t access ask.client

    -- so many messages were settled by the book, and nothing came
    pub record Quiet (start book : SeenOf K) (most more : ℕ) (bytes left : List ℕ) (old new : List ℕ) (messages : ℕ) : Type 0 where
      pub came : Advances keeper ask.client start None 0 book
      pub uncounted : (keeper.told book.keeper).faults ≡ (keeper.told start.keeper).faults
      pub ran : (t : Terms) (rows : List Row) (a : Account) → HasTerms t start → NamesRows keeper start rows → StartsWith rows a.seen
          → (now : Account) × IsNow messages rows a now × AddsFront (by_account t) a (first_asks ask most bytes) now (first_asks ask more left) old new

    pub Quiet-begun : (start : SeenOf K) (most : ℕ) (bytes old : List ℕ) → Quiet start start most most bytes bytes old old 0
    Quiet-begun start most bytes old = record {
      came = nothing_came ask.client start;
      uncounted = refl;
      ran = λ t rows a terms named begins. (a, record { none = λ e. refl; some = λ l. absurd (omega (arith, l)) }, AddsFront-none (by_account t) a (first_asks ask most bytes) old);
    }

    -- one message more, whatever came
    pub one_more : (start book later : SeenOf K) (most more less : ℕ) (bytes left after message old mid new : List ℕ) (messages : ℕ) (told : Told) (into : SettledInto)
        → first_messages more left ≡ message ∷ first_messages less after → Quiet start book most more bytes left old mid messages
        → SettlesInto (λ s. Settles keeper access book (record ask { bytes = message }) s later) true mid new into
        → Advances keeper ask.client book told.receipt told.count later → told.receipt ≡ into.receipt → (keeper.told book.keeper).faults + told.rise ≡ (keeper.told later.keeper).faults
        → (Rose (keeper.told book.keeper).faults (keeper.told later.keeper).faults → (0 < told.rise) ⊎ (told.mark ≡ true))
        → (t : Terms) (rows : List Row) (a : Account) → HasTerms t start → NamesRows keeper start rows → StartsWith rows a.seen
        → AddsFront (by_account t) a (first_asks ask most bytes) (settled rows (done_by keeper ask.client rows later told) a) (first_asks ask less after) old new
    one_more start book later most more less bytes left after message old mid new messages told into cut q ok step receipt rise rose t rows a terms named begins =
        let ran = q.ran t rows a terms named begins in
        let now = ran.0 in
        let done = done_by keeper ask.client rows later told in
        let named_now = named_still ask.client rows start book named q.came in
        let terms_now : HasTerms t book = record { origin = q.came.origin ∙ terms.origin; updates = q.came.updates ∙ terms.updates } in
        let turn = turn_of keeper ask.client rows book later told named_now step in
        let asked : Ask = record ask { bytes = message } in
        let by_now = into_map (λ s. Settles keeper access book asked s later) (λ s. by_account t now asked s (settled rows done now)) true mid new into
        (λ s is one. settles_one keeper t access ask.client now asked s rows book later told (begins_now messages rows a now ran.1 begins) terms_now named_now refl one turn
        (receipt ∙ ap (λ (i : SettledInto). i.receipt) is) rise rose) ok in
        let all : List Ask = first_asks ask most bytes in
        let front = subst (λ (ms : List (List ℕ)). AddsFront (by_account t) a all now (map (λ m. record ask { bytes = m }) ms) old mid) cut ran.2 in
        let longer = AddsFront-more (by_account t) a now (settled rows done now) all (first_asks ask less after) asked old mid new front (Adds-one (by_account t) now (settled rows done now) asked mid new into by_now) in
        subst (λ (x : Account). AddsFront (by_account t) a all x (first_asks ask less after) old new) (settled_now messages rows a now done ran.1) longer

    pub Quiet-more : (start book later : SeenOf K) (most more less : ℕ) (bytes left after message old mid new : List ℕ) (messages : ℕ) (told : Told) (into : SettledInto)
        → first_messages more left ≡ message ∷ first_messages less after → Quiet start book most more bytes left old mid messages
        → SettlesInto (λ s. Settles keeper access book (record ask { bytes = message }) s later) true mid new into
        → Advances keeper ask.client book told.receipt told.count later → told.receipt ≡ into.receipt → (keeper.told book.keeper).faults + told.rise ≡ (keeper.told later.keeper).faults
        → (Rose (keeper.told book.keeper).faults (keeper.told later.keeper).faults → (0 < told.rise) ⊎ (told.mark ≡ true))
        → told.receipt ≡ None → told.rise ≡ 0 → told.mark ≡ false
        → Quiet start later most less bytes after old new (messages + 1)
    Quiet-more start book later most more less bytes left after message old mid new messages told into cut q ok step receipt rise rose no_receipt no_rise no_mark =
        let places : places_of (listed told.receipt) ≡ places_from (book.row_count + 1) told.count = step.places in
        let none : told.count ≡ 0 = none_came (book.row_count + 1) told.count (ap (λ (r : Option Receipt). places_of (listed r)) (sym no_receipt) ∙ places) in
        let step0 = subst (λ (r : Option Receipt). Advances keeper ask.client book r 0 later) no_receipt (subst (λ (n : ℕ). Advances keeper ask.client book told.receipt n later) none step) in
        record {
          came = came_then ask.client 0 start book later None q.came step0;
          uncounted = (let u = q.uncounted in omega (arith, u, rise, no_rise));
          ran = λ t rows a terms named begins.
              let done = done_by keeper ask.client rows later told in
              let named_now = named_still ask.client rows start book named q.came in
              let turn = turn_of keeper ask.client rows book later told named_now step in
              let batch : done.batch ≡ [] = nil_of done.batch (sym turn.many ∙ none) in (
                settled rows done a,
                record { none = λ e. absurd (omega (arith, e)); some = λ l. still rows a done batch no_receipt no_rise no_mark },
                one_more start book later most more less bytes left after message old mid new messages told into cut q ok step receipt rise rose t rows a terms named begins,
              );
        }

    -- nothing came of all of them
    pub Quiet-end : (start book : SeenOf K) (most more : ℕ) (bytes left old new : List ℕ) (messages : ℕ) → Quiet start book most more bytes left old new messages → 0 < messages
        → (t : Terms) (rows : List Row) (a : Account) → HasTerms t start → NamesRows keeper start rows → StartsWith rows a.seen
        → AddsFront (by_account t) a (first_asks ask most bytes) (settled rows (done_by keeper ask.client rows book nothing_told) a) (first_asks ask more left) old new
    Quiet-end start book most more bytes left old new messages q some_did t rows a terms named begins =
        let ran = q.ran t rows a terms named begins in
        let done = done_by keeper ask.client rows book nothing_told in
        let turn : IsTurn keeper ask.client rows start book nothing_told = turn_of keeper ask.client rows start book nothing_told named q.came in
        let batch : done.batch ≡ [] = nil_of done.batch (sym turn.many) in
        subst (λ (x : Account). AddsFront (by_account t) a (first_asks ask most bytes) x (first_asks ask more left) old new) (ran.1.some some_did ∙ sym (still rows a done batch refl refl refl)) ran.2

    -- behind them memory ran out
    pub Quiet-halts : (start book later : SeenOf K) (most more : ℕ) (bytes left old mid new : List ℕ) (messages : ℕ) (told : Told) → Quiet start book most more bytes left old mid messages
        → IsLeft keeper book later → new ≡ mid → told.receipt ≡ None → (keeper.told book.keeper).faults + told.rise ≡ (keeper.told later.keeper).faults
        → (t : Terms) (rows : List Row) (a : Account) → HasTerms t start → NamesRows keeper start rows → StartsWith rows a.seen
        → Halts (by_account t) LeftAs a (first_asks ask most bytes) (settled rows (done_by keeper ask.client rows later told) a) old new
    Quiet-halts start book later most more bytes left old mid new messages told q err same_bytes no_receipt rise t rows a terms named begins =
        let ran = q.ran t rows a terms named begins in
        let now = ran.0 in
        let done = done_by keeper ask.client rows later told in
        let same = err.uncounted in
        let skipped : LeftAs now (settled rows done a) = subst (λ (x : Account). LeftAs now x) (settled_now messages rows a now done ran.1)
        (leaves_one keeper ask.client now rows book later told (begins_now messages rows a now ran.1 begins) no_receipt (omega (arith, same, rise))) in
        let all : List Ask = first_asks ask most bytes in
        let front = subst (λ (l : List Ask). AddsFront (by_account t) a all now l old mid) (sym (append-nil (first_asks ask more left))) ran.2 in
        AddsFront-halts (by_account t) LeftAs a now (settled rows done a) all (first_asks ask more left) [] old mid new front (Halts-skips (by_account t) LeftAs now (settled rows done a) (first_asks ask more left) mid new skipped same_bytes)
