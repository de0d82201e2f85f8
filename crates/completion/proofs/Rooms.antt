-- What the counts of the workings say of the worksheet's room.
use Rattle.std.proofs.Common.{◌≡◌, ℕ, ◌+◌, ◌<◌, ◌≤◌, true, ◌&&◌, ltb, leb, List, ◌++◌, length, vec_len, sym, ap, ◌∙◌, ap₂, arith, length-append}
use Rattle.std.proofs.lemmas.Bool.{and_parts, ltb-true, leb-true}
use Rattle.worksheet.specs.declared.rule.Rule.{Rule}
use Rattle.worksheet.specs.Derivations.{Derivation}
use Rattle.questions.specs.declared.question.Fork.{Fork}
use Rattle.questions.specs.Asking.{parting_of, fork_of}
use Rattle.tables.specs.Trails.{trail, forward, undo}
use Rattle.completion.specs.declared.workings.Workings.{Workings}
use Rattle.completion.specs.Room.{numbers, roomy}
use Rattle.completion.specs.States.{held, lines_of, chain_of}
use Rattle.completion.specs.Adding.{between, derived}
use Rattle.completion.proofs.Rows.{length-forward, length-undo}
use Rattle.completion.proofs.Deriving.{derivations-length, derivations-numbers}

pub added-length : (w : Workings) → length (held w).added ≡ vec_len w.lines
added-length w = derivations-length (lines_of w) (chain_of w) ∙ omega arith

pub added-numbers : (w : Workings) → numbers (held w).added ≡ vec_len w.chain
added-numbers w = derivations-numbers (lines_of w) (chain_of w) (omega arith) ∙ w.summed

pub roomy_is : (w : Workings) (n : ℕ) → roomy (held w).added n ≡ (ltb (vec_len w.lines) 512 && leb (vec_len w.chain + n) 4096)
roomy_is w n = ap₂ (λ k m. ltb k 512 && leb (m + n) 4096) (added-length w) (added-numbers w)

pub roomy_parts : (w : Workings) (n : ℕ) → roomy (held w).added n ≡ true → (vec_len w.lines < 512) × (vec_len w.chain + n ≤ 4096)
roomy_parts w n h =
    let p = and_parts (ltb (vec_len w.lines) 512) (leb (vec_len w.chain + n) 4096) (sym (roomy_is w n) ∙ h) in
    (ltb-true (vec_len w.lines) 512 p.0, leb-true (vec_len w.chain + n) 4096 p.1)

-- the chain of a fork that counts its steps
pub derived-length : (t : List Rule) (f : Fork) → fork_of (parting_of t f) ≡ f
    → length (derived (parting_of t f)).chain ≡ f.first.steps + (length (between f.question.bridge) + f.second.steps)
derived-length t f e =
    let first : length (trail t f.first.steps f.question.first) ≡ f.first.steps = ap (λ (x : Fork). x.first.steps) e in
    let second : length (trail t f.second.steps f.question.second) ≡ f.second.steps = ap (λ (x : Fork). x.second.steps) e in
    let p = forward (trail t f.first.steps f.question.first) in
    let q = forward (trail t f.second.steps f.question.second) in
    omega (
      arith,
      length-append (undo p) (between f.question.bridge ++ q),
      length-append (between f.question.bridge) q,
      length-undo p,
      length-forward (trail t f.first.steps f.question.first),
      length-forward (trail t f.second.steps f.question.second),
    )

-- the room that it takes, by its counted length
pub derived-room : (ds : List Derivation) (t : List Rule) (f : Fork) (n : ℕ) → fork_of (parting_of t f) ≡ f → n ≡ f.first.steps + (length (between f.question.bridge) + f.second.steps)
    → roomy ds (length (derived (parting_of t f)).chain) ≡ roomy ds n
derived-room ds t f n e is = ap (roomy ds) (derived-length t f e ∙ sym is)
