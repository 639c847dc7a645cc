-- The rule of a ticket lock round a book. Its table has three words, the next ticket, the ticket that is served and the number
-- of rows, and one slot, where the book is at home.
use Rattle.std.specs.Prelude.{◌≡◌, ◌≢◌, ◌⊎◌, ℕ, ◌+◌, ◌%◌, ◌^◌, ◌<◌, ◌≤◌, ◌==◌, ◌||◌, Bool, true, false, MatchBool, List, [], ◌∷◌, ◌++◌, length, drop, replicate, slice_set, Option, Some, None}
use mathlib.Core.Option.{some, none}
use lib.ListN.{get_elem?}
use Rattle.atomic_table.specs.Table.{State, Me, Step}
use Rattle.dns_keeper.specs.declared.row.Row.{Row}
use Rattle.dns_book.specs.declared.ask.Receipt.{Receipt}
use Rattle.dns_ticket_lock.specs.declared.held.Member.{Member}
use Rattle.dns_ticket_lock.specs.declared.view.Account.{Account}
use Rattle.dns_ticket_lock.specs.declared.view.Phase.{Phase}
use Rattle.dns_ticket_lock.specs.declared.view.Phase.TheVariants.{Idle, Waiting, Holding, HasCounted}
use Rattle.dns_ticket_lock.specs.declared.view.Terms.{Terms}
use Rattle.dns_ticket_lock.specs.declared.view.View.{View}
use Rattle.dns_ticket_lock.specs.Lists.{StartsWith, total, with_head, only_first, but_first}
use Rattle.dns_ticket_lock.specs.Places.{bearing, places_from, places_of, listed, all_bear, all_within}

-- how the value in the slot, of type H, names the terms, the rows and the members
abbrev pub Naming : Type 0 → Type 1
Naming H = Terms → List Row → List Member → H → Type 0

-- what a number has seen and done at the start: the opening rows, and nothing
abbrev pub fresh : Terms → Account
fresh t = record { seen = t.rows; receipts = []; faults = 0; marked = false }

abbrev pub no_terms : Terms
no_terms = record { rows = []; start = 0; seats = 0; origin = []; allow_update = false }

abbrev pub terms_of : List Terms → Terms
terms_of [] = no_terms
terms_of (t ∷ ts) = t

-- the first seat has every account
abbrev pub first_view : Terms → View
first_view t = record { phase = Idle; ticket = 0; low = 0; accounts = replicate t.seats (fresh t); rows = []; members = []; terms = t }

-- a seat that another took in
abbrev pub spent : View
spent = record { phase = Idle; ticket = 0; low = 0; accounts = []; rows = []; members = []; terms = no_terms }

-- the view of a pass that is at rest
abbrev pub view_of : List View → View
view_of [] = spent
view_of (v ∷ vs) = v

abbrev pub waits : ℕ → View → View
waits ticket v = record v { phase = Waiting; ticket = ticket }

abbrev pub has : List Row → List Member → View → View
has rows members v = record v { phase = Holding; rows = rows; members = members }

abbrev pub member_of : Account → Member
member_of a = record { share = a.faults; mark = a.marked }

-- what one settle did: the rows that it added, the receipt for them, how many faults it counted, and whether it failed where
-- no fault can be counted any more
pub record Done : Type 0 where
  pub batch : List Row
  pub receipt : Option Receipt
  pub rise : ℕ
  pub mark : Bool

abbrev pub nothing_done : Done
nothing_done = record { batch = []; receipt = None; rise = 0; mark = false }

-- the batch bears the number, and its places are those of the receipt
pub record IsDone (number : ℕ) (rows : List Row) (done : Done) : Type 0 where
  pub theirs : all_bear number done.batch ≡ true
  pub places : places_of (listed done.receipt) ≡ places_from (length rows + 1) (length done.batch)

-- the account after a settle
abbrev pub settled : List Row → Done → Account → Account
settled rows done a = record {
  seen = rows ++ done.batch;
  receipts = a.receipts ++ listed done.receipt;
  faults = a.faults + done.rise;
  marked = a.marked || done.mark;
}

-- the first account's member written into the list
abbrev pub with_member : List Account → ℕ → List Member → List Member
with_member [] low ms = ms
with_member (a ∷ more) low ms = slice_set ms low (member_of a)

abbrev pub has_counted : Done → View → View
has_counted done v = record v {
  phase = HasCounted;
  accounts = with_head (settled v.rows done) v.accounts;
  rows = v.rows ++ done.batch;
  members = with_member (with_head (settled v.rows done) v.accounts) v.low v.members;
}

abbrev pub rests : View → View
rests v = record v { phase = Idle; rows = []; members = [] }

abbrev pub keeps_first : View → View
keeps_first v = record v { accounts = only_first v.accounts }

abbrev pub has_others : View → View
has_others v = record v { phase = Idle; low = v.low + 1; accounts = but_first v.accounts }

abbrev pub with_both : View → View → View
with_both v w = record v { accounts = v.accounts ++ w.accounts }

-- it holds or has counted
abbrev pub has_book : Phase → Bool
has_book Holding = true
has_book HasCounted = true
has_book phase = false

-- how many tickets it has: none where it is idle, else one
abbrev pub tickets : Phase → ℕ
tickets Idle = 0
tickets phase = 1

abbrev pub busy : View → ℕ
busy v = tickets v.phase

abbrev pub size : View → ℕ
size v = length v.accounts

-- where a seat stands in the queue of those that drew a ticket. One that has the book or has counted stands first
pub record Stands (queue : List ℕ) (serving seat : ℕ) (v : View) : Type 0 where
  pub place : ℕ
  pub at : get_elem? queue place ≡ some seat
  pub ticket : v.ticket ≡ (serving + place) % 2 ^ 64
  pub first : has_book v.phase ≡ true → place ≡ 0

-- the account of the number i + 1 has seen a beginning of the rows, the rows past the opening that bear its number are exactly
-- those of its receipts, at their places, each once, and its faults and mark are its member's
pub record Meets (t : Terms) (rows : List Row) (members : List Member) (i : ℕ) (a : Account) : Type 0 where
  pub seen : StartsWith rows a.seen
  pub places : bearing (i + 1) (length t.rows + 1) (drop (length t.rows) rows) ≡ places_of a.receipts
  pub member : get_elem? members i ≡ some (member_of a)

pub record Fits (t : Terms) (queue : List ℕ) (rows : List Row) (members : List Member) (serving seat : ℕ) (v : View) : Type 0 where
  pub terms : 0 < length v.accounts → v.terms ≡ t
  pub room : v.low + length v.accounts ≤ t.seats
  pub owns : busy v ≤ length v.accounts
  pub stands : v.phase ≢ Idle → Stands queue serving seat v
  pub meets : (k : ℕ) (a : Account) → get_elem? v.accounts k ≡ some a → Meets t rows members (v.low + k) a

-- no number is in both
abbrev pub Clear : View → View → Type 0
Clear v w = (k l : ℕ) → k < length v.accounts → l < length w.accounts → v.low + k ≢ w.low + l

abbrev pub Apart : List View → Type 0
Apart views = (i j : ℕ) (v w : View) → i ≢ j → get_elem? views i ≡ some v → get_elem? views j ≡ some w → Clear v w

abbrev pub NoneHas : List View → Type 0
NoneHas views = (seat : ℕ) (w : View) → get_elem? views seat ≡ some w → has_book w.phase ≡ false

-- the book is at home and no seat has it, or one seat has it or has counted, whose view names the rows and members
abbrev pub IsHome : {H : Type 0} → Naming H → Terms
    → List (mathlib.Core.Option.Option (Option H)) → List View → List Row → List Member → Type 0
IsHome {H} N t homes views rows members =
    ((h : H) × (homes ≡ some (Some h) ∷ []) × N t rows members h × NoneHas views)
    ⊎ ((homes ≡ none ∷ []) × (holder : ℕ) × (w : View) × (get_elem? views holder ≡ some w)
    × (has_book w.phase ≡ true) × (w.rows ≡ rows) × (w.members ≡ members))

-- what holds between any two steps
pub record Kept {H : Type 0} (N : Naming H) (t : Terms) (s : State (Option H) View) : Type 0 where
  pub next : ℕ
  pub serving : ℕ
  pub queue : List ℕ
  pub rows : List Row
  pub members : List Member
  pub words : s.words ≡ next ∷ serving ∷ length rows ∷ []
  pub drawn : next ≡ (serving + length queue) % 2 ^ 64
  pub counted : total busy s.views ≡ length queue
  pub seated : total size s.views ≡ t.seats
  pub few : t.seats ≤ 1024
  pub opened : StartsWith rows t.rows
  pub numbered : all_within t.seats (drop (length t.rows) rows) ≡ true
  pub many : length members ≡ t.seats
  pub fits : (seat : ℕ) (v : View) → get_elem? s.views seat ≡ some v → Fits t queue rows members serving seat v
  pub apart : Apart s.views
  pub home : IsHome N t s.homes s.views rows members

-- what the first account of the one that takes the book finds in it
abbrev pub FindsOwn : List Account → ℕ → List Row → List Member → Type 0
FindsOwn [] low rows members = Unit {0}
FindsOwn (a ∷ more) low rows members = StartsWith rows a.seen × (get_elem? members low ≡ some (member_of a))

-- what the steps tell
abbrev pub Draws : {H : Type 0} → Step (Option H) → Me (Option H) View → ℕ → Me (Option H) View → Type 0
Draws step me found after = after ≡ (waits found me.0, me.1)

abbrev pub Takes : {H : Type 0} → Naming H → View → List Row → List Member → H → Type 0
Takes N v rows members h = N v.terms rows members h × FindsOwn v.accounts v.low rows members

-- a look at the ticket that is served: where it is one's own, one has the book
abbrev pub LooksAt : {H : Type 0} → Naming H → Me (Option H) View → ℕ → Me (Option H) View → Type 0
LooksAt {H} N me found after =
    MatchBool (found == me.0.ticket)
    ((h : H) × (rows : List Row) × (members : List Member)
    × (after ≡ (has rows members me.0, (0, Some h) ∷ [])) × Takes N me.0 rows members h)
    (after ≡ me)

abbrev pub Looks : {H : Type 0} → Naming H → Step (Option H) → Me (Option H) View → ℕ → Me (Option H) View → Type 0
Looks N step me found after = LooksAt N me found after

abbrev pub Counts : {H : Type 0} → Done → Step (Option H) → Me (Option H) View → ℕ → Me (Option H) View → Type 0
Counts done step me found after = after ≡ (has_counted done me.0, me.1)

abbrev pub Passes : {H : Type 0} → Step (Option H) → Me (Option H) View → ℕ → Me (Option H) View → Type 0
Passes step me found after = after ≡ (rests me.0, [])

abbrev pub faults_of : Account → ℕ
faults_of a = a.faults

abbrev pub own : List Account → Account
own [] = fresh no_terms
own (a ∷ more) = a

-- the view of a pass that is at rest, whose number is this
pub record Rests (views : List View) (number : ℕ) : Type 0 where
  pub one : length views ≡ 1
  pub idle : (view_of views).phase ≡ Idle
  pub account : length (view_of views).accounts ≡ 1
  pub place : (view_of views).low + 1 ≡ number
  pub few : number ≤ 1024
