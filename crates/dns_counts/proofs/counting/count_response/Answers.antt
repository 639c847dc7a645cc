use Rattle.std.proofs.Common.{◌≡◌, ℕ, zero, suc, ◌≤◌, ◌==◌, Some, refl, ◌∙◌, arith}
use Rattle.std.specs.List.{position_from}
use Rattle.dns_counts.specs.declared.labels.TheConstants.{RESPONSE_CODES}
use Rattle.dns_counts.proofs.Counted.{known-place}
use Rattle.dns_counts.proofs.counting.count_response.Goals as goal

-- the codes up to 10 stand at their numbers
place-of : (code : ℕ) → code ≤ 10 → position_from (λ one. code == one) 0 RESPONSE_CODES ≡ Some code
place-of zero within = refl
place-of (suc zero) within = refl
place-of (suc (suc zero)) within = refl
place-of (suc (suc (suc zero))) within = refl
place-of (suc (suc (suc (suc zero)))) within = refl
place-of (suc (suc (suc (suc (suc zero))))) within = refl
place-of (suc (suc (suc (suc (suc (suc zero)))))) within = refl
place-of (suc (suc (suc (suc (suc (suc (suc zero))))))) within = refl
place-of (suc (suc (suc (suc (suc (suc (suc (suc zero)))))))) within = refl
place-of (suc (suc (suc (suc (suc (suc (suc (suc (suc zero))))))))) within = refl
place-of (suc (suc (suc (suc (suc (suc (suc (suc (suc (suc zero)))))))))) within = refl
place-of (suc (suc (suc (suc (suc (suc (suc (suc (suc (suc (suc k))))))))))) within = absurd (omega arith)

pub returns-then-code-le-NOT_ZONE : goal.returns-then-code-le-NOT_ZONE
returns-then-code-le-NOT_ZONE c =
    rw c.from.ensures at c.raise_at.ensures
    ∙ known-place c.args.code RESPONSE_CODES c.args.counts.now c.args.code (place-of c.args.code c.if-code-le-NOT_ZONE.true) refl
