-- What the calls of a network show of one connection, what a crowd was handed and gave for it, and what holds between the two.
use Rattle.std.specs.Prelude.{◌≡◌, ◌≤◌, ◌<◌, ℕ, List, [], ◌∷◌, ◌++◌, Bool, true, false, nat_eq, if◌then◌else◌, Option, Some, None, Ok}
use Rattle.std.specs.List.{AllByRecursion, flat_map, list_any}
use Rattle.dns_network.specs.Calls.{Noted, closed}
use Rattle.dns_network.specs.Words.{IsCause, found, has_worked, is_crowded, is_stopped, moved_at, now_of, owing_since, read_by, was_shut, written_by}
use Rattle.dns_network.specs.declared.call.Call.{Call}
use Rattle.dns_network.specs.declared.call.Call.TheVariants as call
use Rattle.dns_network.specs.declared.call.Watch.{Watch}
use Rattle.dns_network.specs.declared.call.Why.{Why}
use Rattle.dns_network.specs.declared.call.Why.TheVariants as why
use Rattle.dns_connections.specs.Moments.{clocks_of}
use Rattle.dns_connections.specs.declared.stage.Fate.{Fate}
use Rattle.dns_connections.specs.declared.stage.Fate.TheVariants.{Stays, Watches, Ends}
use Rattle.dns_connections.specs.Links.{LinkSeen, is_draining, is_open, left_of, mark_of, standing, watch_for}

-- for what a stream is watched: what the system was last asked for and did not refuse
abbrev pub watch_by : ℕ → Option Watch → Call → Option Watch
watch_by n before (call.Watched number what (Ok done)) = if nat_eq number n then Some what else before
watch_by n before other = before

abbrev pub watch_of : ℕ → List Noted → Option Watch
watch_of n = found (watch_by n) None

-- why a stream was closed, each time in order
abbrev pub closing_in : ℕ → Call → List Why
closing_in n (call.Closed number cause) = if nat_eq number n then cause ∷ [] else []
closing_in n other = []

abbrev pub closings_by : ℕ → List Noted → List Why
closings_by n = flat_map (λ c. closing_in n c.0)

-- what the calls show of one number
pub record Line : Type 0 where
  pub written : List ℕ
  pub read : List ℕ
  pub moved : ℕ
  pub owing : Option ℕ
  pub shut : Bool
  pub closings : List Why
  pub watch : Option Watch

abbrev pub line_of : ℕ → List Noted → Line
line_of n calls = record {
  written = written_by n calls;
  read = read_by n calls;
  moved = moved_at n calls;
  owing = owing_since n calls;
  shut = was_shut n calls;
  closings = closings_by n calls;
  watch = watch_of n calls;
}

abbrev pub no_line : Line
no_line = record { written = []; read = []; moved = 0; owing = None; shut = false; closings = []; watch = None }

-- what a crowd was handed for one number, whether it was asked to close it, and what it gave of it
pub record Account : Type 0 where
  pub handed : List ℕ
  pub asked : Bool
  pub given : List ℕ

abbrev pub account_of : ℕ → List Noted → List Noted → Account
account_of n handed came = record { handed = written_by n handed; asked = was_shut n handed; given = read_by n came }

abbrev pub no_account : Account
no_account = record { handed = []; asked = false; given = [] }

-- what one call of a crowd does to an account
abbrev pub same_account : Account → Account
same_account a = a

abbrev pub handed_more : List ℕ → Account → Account
handed_more bytes a = record a { handed = a.handed ++ bytes }

abbrev pub given_more : List ℕ → Account → Account
given_more bytes a = record a { given = a.given ++ bytes }

abbrev pub asked_now : Account → Account
asked_now a = record a { asked = true }

-- a list is the front of another
pub record IsFront (front all : List ℕ) : Type 0 where
  pub rest : List ℕ
  pub is : all ≡ front ++ rest

-- it was closed behind its last byte
abbrev pub is_finish : Why → Bool
is_finish why.Finished = true
is_finish other = false

abbrev pub has_finished : List Why → Bool
has_finished = list_any is_finish

-- what is right of each number, whether a connection stands under it or not: what its peer took is a front of what was handed for it, and
-- all of it where it was closed behind its last byte; it was shut only where that was asked for; what was given of it is a front of what was
-- read, and all of it until it was to be closed
pub record IsRight (line : Line) (a : Account) : Type 0 where
  pub front : IsFront line.written a.handed
  pub whole : has_finished line.closings ≡ true → a.handed ≡ line.written
  pub shut : line.shut ≡ true → a.asked ≡ true
  pub given : IsFront a.given line.read
  pub all_given : a.asked ≡ false → a.given ≡ line.read

-- what is so of a connection: while it stands it was not closed, its peer took what was handed for it but what it is owed, and its moments are
-- those of the calls
pub record IsPaid (line : Line) (a : Account) (one : LinkSeen) : Type 0 where
  pub unclosed : line.closings ≡ []
  pub paid : a.handed ≡ line.written ++ left_of one.owed
  pub heard : line.moved ≡ one.heard
  pub owing : line.owing ≡ mark_of one.owed

pub record Follows (line : Line) (a : Account) (one : LinkSeen) : Type 0 where
  pub right : IsRight line a
  pub paid : one.stands ≡ true → IsPaid line a one
  pub all : is_open one.stage ≡ true → a.given ≡ line.read
  pub asked : is_open one.stage ≡ false → a.asked ≡ true
  pub shut : is_draining one.stage ≡ true → line.shut ≡ true
  pub drained : is_draining one.stage ≡ true → left_of one.owed ≡ []

-- one that stands is watched: to be written where it is owed something, and else to be read
abbrev pub IsWatched : Line → LinkSeen → Type 0
IsWatched line one = one.stands ≡ true → line.watch ≡ Some (watch_for one.owed)

-- calls were made for one connection alone: of another number they show nothing, no clock was read, and what let the crowd go on still does;
-- what was so of the connection is so of what it is now, where an account of it changed so
pub record Acts (before after : List Noted) (change : Account → Account) (one later : LinkSeen) : Type 0 where
  pub others : (m : ℕ) → (m ≡ one.number → ⊥) → line_of m after ≡ line_of m before
  pub now : now_of after ≡ now_of before
  pub clocks : clocks_of after ≡ clocks_of before
  pub stopped : is_stopped after ≡ is_stopped before
  pub crowded : (m : ℕ) → is_crowded m after ≡ is_crowded m before
  pub worked : has_worked before ≡ true → has_worked after ≡ true
  pub number : later.number ≡ one.number
  pub own : (a : Account) → Follows (line_of one.number before) a one → Follows (line_of one.number after) (change a) later

-- it is watched for what it waits for, if it was so before
abbrev pub StaysWatched : List Noted → List Noted → LinkSeen → LinkSeen → Type 0
StaysWatched before after one later = IsWatched (line_of one.number before) one → IsWatched (line_of later.number after) later

-- the numbers rise, and all are below this one
abbrev pub Climb : List LinkSeen → ℕ → Type 0
Climb [] next = Unit {0}
Climb (one ∷ all) next = (one.number < next) × AllByRecursion (λ other. one.number < other.number) all × Climb all next

-- nothing was done under a number yet
pub record IsUnused (line : Line) (a : Account) : Type 0 where
  pub blank : line ≡ no_line
  pub quiet : a ≡ no_account

-- a connection follows the calls, and is watched
pub record IsKept (calls handed came : List Noted) (one : LinkSeen) : Type 0 where
  pub follows : Follows (line_of one.number calls) (account_of one.number handed came) one
  pub watched : IsWatched (line_of one.number calls) one

-- between any two calls of a crowd
pub record Keeps (calls handed came : List Noted) (links : List LinkSeen) (next ticks held : ℕ) (worked : Bool) : Type 0 where
  pub kept : AllByRecursion (IsKept calls handed came) links
  pub right : (n : ℕ) → IsRight (line_of n calls) (account_of n handed came)
  pub unused : (n : ℕ) → next ≤ n → IsUnused (line_of n calls) (account_of n handed came)
  pub climb : Climb links next
  pub now : now_of calls ≡ ticks
  pub places : held ≡ standing links
  pub works : worked ≡ true → has_worked calls ≡ true

-- a call shows why a connection may be closed, where it is to be, and that is not for being finished
abbrev pub HasEnd : List Noted → ℕ → Fate → Type 0
HasEnd calls n Stays = Unit {0}
HasEnd calls n Watches = Unit {0}
HasEnd calls n (Ends cause) = IsCause calls n cause × (is_finish cause ≡ false)

-- where it stays as it is watched, it is watched for what it waits for
abbrev pub StaysRight : List Noted → Fate → LinkSeen → Type 0
StaysRight calls Stays one = IsWatched (line_of one.number calls) one
StaysRight calls Watches one = Unit {0}
StaysRight calls (Ends cause) one = Unit {0}

-- the moments of a connection, and that it was shut, are those of the calls
pub record IsTimed (calls : List Noted) (one : LinkSeen) : Type 0 where
  pub heard : one.stands ≡ true → moved_at one.number calls ≡ one.heard
  pub owing : one.stands ≡ true → owing_since one.number calls ≡ mark_of one.owed
  pub shut : is_draining one.stage ≡ true → was_shut one.number calls ≡ true

-- the calls by which a connection is closed at the end
abbrev pub ceasing_of : LinkSeen → List Noted
ceasing_of one = if one.stands then closed one.number why.Ceased ∷ [] else []
