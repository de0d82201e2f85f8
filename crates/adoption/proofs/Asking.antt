-- Questions that all end in one load are answered wherever the budget allows their steps.
use Rattle.std.proofs.Common.{◌≡◌, ℕ, ◌+◌, ◌-◌, ◌≤◌, List, length, Ok, arith}
use Rattle.loads.proofs.Deciding.{alike_decides}
use Rattle.worksheet.specs.declared.rule.Rule.{Rule}
use Rattle.questions.specs.declared.question.Question.{Question}
use Rattle.questions.specs.Placed.{placed}
use Rattle.questions.specs.Topics.{Topic}
use Rattle.questions.specs.Asking.{Parting, met, ending, ask, ask_all}
use Rattle.soundness.proofs.Answering.{goes, marks}
use Rattle.soundness.proofs.Reducing.{so_reduces}
use Rattle.soundness.proofs.Asking.{Tried, AllMet, no_more, one_more}

-- one question
so_ask : (t : List Rule) (q : Question) (p : Parting) (c b : ℕ) → Tried t q p c → p.first.end ≡ p.second.end → length p.first.trail + length p.second.trail ≤ b
    → ask t b q ≡ Ok (met (b - length p.first.trail - length p.second.trail))
so_ask t q p c b w e h =
    let same = (alike_decides p.first.end p.second.end).1 e in
    goes _ (marks (placed q.place) (so_reduces w.came_first b (omega arith)))
    (goes _ (marks (placed q.place) (so_reduces w.came_second (b - length p.first.trail) (omega arith))) (rw (same, ending)))

-- all of them
pub so_asks : {t : List Rule} {ks : List Topic} {n : ℕ} → AllMet t ks n → (b : ℕ) → ask_all t (n + b) ks ≡ Ok (met b)
so_asks no_more b = let e : 0 + b ≡ b = omega arith in rw e
so_asks {t} (one_more {k = k} {ks = ks} {n = n} {b = c} q p f w s h) b =
    let x = length p.first.trail in
    let y = length p.second.trail in
    let left : x + y + n + b - x - y ≡ n + b = omega arith in
    goes _ f (goes _ (so_ask t q p c (x + y + n + b) w s (omega arith)) (rw left (so_asks h b)))
