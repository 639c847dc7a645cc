-- How many connections stand, where one changes or some are let go.
use Rattle.std.proofs.Common.{◌≡◌, ◌≤◌, ◌<◌, ◌+◌, ℕ, zero, suc, List, [], ◌∷◌, ◌++◌, Bool, true, false, cond, length, get_or, set, ap, refl, arith}
use Rattle.std.specs.List.{filter}
use Rattle.std.proofs.lemmas.List.Sums.{sum_by-append, sum_by-cons, sum_by-set}
use Rattle.dns_readiness.specs.Decisions.{LinkSeen}
use Rattle.dns_readiness.specs.Links.{IsFloor, is_idle, link_at, since, standing, stands}

abbrev pub counts : LinkSeen → ℕ
counts one = cond (stands one) 1 0

-- one changes, and stands as before
pub standing_same : (all : List LinkSeen) (place : ℕ) (one d : LinkSeen) → place < length all → stands one ≡ stands (get_or all place d)
    → standing (set all place one) ≡ standing all
standing_same all place one d inside same =
    let sums = sum_by-set counts all place one d inside in
    let alike = ap {B = ℕ} (λ (b : Bool). cond b 1 0) same in
    omega (arith, sums, alike)

-- one that stood ends
pub standing_less : (all : List LinkSeen) (place : ℕ) (one d : LinkSeen) → place < length all → stands (get_or all place d) ≡ true → stands one ≡ false
    → standing (set all place one) + 1 ≡ standing all
standing_less all place one d inside stood ends =
    let sums = sum_by-set counts all place one d inside in
    let before = ap {B = ℕ} (λ (b : Bool). cond b 1 0) stood in
    let after = ap {B = ℕ} (λ (b : Bool). cond b 1 0) ends in
    omega (arith, sums, before, after)

-- one more stands behind them
pub standing_more : (all : List LinkSeen) (one : LinkSeen) → stands one ≡ true → standing (all ++ one ∷ []) ≡ standing all + 1
standing_more all one stood =
    let sums = sum_by-append counts all (one ∷ []) in
    let last = sum_by-cons counts one [] in
    let here = ap {B = ℕ} (λ (b : Bool). cond b 1 0) stood in
    omega (arith, sums, last, here)

fewer_by : (b : Bool) (one : LinkSeen) (left all : List LinkSeen) → standing left ≤ standing all → standing (cond b (one ∷ left) left) ≤ standing (one ∷ all)
fewer_by true one left all rest =
    let before = sum_by-cons counts one all in
    let after = sum_by-cons counts one left in
    omega (arith, rest, before, after)
fewer_by false one left all rest =
    let before = sum_by-cons counts one all in
    omega (arith, rest, before)

-- where some are let go, no more stand than before
pub standing_fewer : (keeps : LinkSeen → Bool) (all : List LinkSeen) → standing (filter keeps all) ≤ standing all
standing_fewer keeps [] = omega arith
standing_fewer keeps (one ∷ all) = fewer_by (keeps one) one (filter keeps all) all (standing_fewer keeps all)

kept_by : (b : Bool) (one : LinkSeen) (left all : List LinkSeen) → stands one ≡ b → standing left ≡ standing all
    → standing (cond b (one ∷ left) left) ≡ standing (one ∷ all)
kept_by true one left all is rest =
    let before = sum_by-cons counts one all in
    let after = sum_by-cons counts one left in
    omega (arith, rest, before, after)
kept_by false one left all is rest =
    let before = sum_by-cons counts one all in
    let none = ap {B = ℕ} (λ (b : Bool). cond b 1 0) is in
    omega (arith, rest, before, none)

-- where those that ended are let go, as many stand as before
pub standing_kept : (all : List LinkSeen) → standing (filter stands all) ≡ standing all
standing_kept [] = refl
standing_kept (one ∷ all) = kept_by (stands one) one (filter stands all) all refl (standing_kept all)

-- one changes: of those that stand and are owed nothing none is silent since before a moment that is no later than before, and than its own
pub floor_set : (floor lower : ℕ) (all : List LinkSeen) (place : ℕ) (one : LinkSeen) → IsFloor floor all → lower ≤ floor → lower ≤ since one
    → (other : ℕ) → other < length (set all place one) → is_idle (link_at (set all place one) other) ≡ true
    → lower ≤ since (link_at (set all place one) other)
floor_set floor lower [] place one rest below within other inside idle = omega (arith, inside)
floor_set floor lower (x ∷ xs) zero one rest below within zero inside idle = within
floor_set floor lower (x ∷ xs) zero one rest below within (suc j) inside idle =
    let r = rest (suc j) inside idle in omega (arith, below, r)
floor_set floor lower (x ∷ xs) (suc i) one rest below within zero inside idle =
    let r = rest 0 (omega arith) idle in omega (arith, below, r)
floor_set floor lower (x ∷ xs) (suc i) one rest below within (suc j) inside idle =
    floor_set floor lower xs i one (λ k within_all is. rest (suc k) (omega (arith, within_all)) is) below within j (omega (arith, inside)) idle
