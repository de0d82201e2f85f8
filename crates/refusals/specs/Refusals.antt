-- What is told of a refusal.
use Rattle.std.specs.Prelude.{ℕ, List, ◌++◌, Some, None, codes, decimal, Option}
use Rattle.worksheet.specs.declared.fault.SwapFault.{SwapFault}
use Rattle.worksheet.specs.declared.fault.SwapFault.TheVariants.{NoLine, Lacks, Overflow}
use Rattle.rewriting.specs.declared.reduce.StepFault.{StepFault}
use Rattle.rewriting.specs.declared.reduce.StepFault.TheVariants.{Spent}
use Rattle.rewriting.specs.declared.reduce.StepFault.TheVariants as step
use Rattle.questions.specs.Placed.{code}
use Rattle.completion.specs.declared.fault.RoundFault.{RoundFault}
use Rattle.completion.specs.declared.fault.RoundFault.TheVariants as round
use Rattle.refusals.specs.declared.Part.{Part}
use Rattle.refusals.specs.declared.Part.TheVariants as part
use Rattle.refusals.specs.declared.Told.{Told}
use Rattle.refusals.specs.declared.Refusal.{Refusal}
use Rattle.refusals.specs.declared.Refusal.TheVariants as refusal

-- a number, a part and a place
abbrev pub plain : ℕ → Part → ℕ → Told
plain n p k = record { number = n; part = p; place = k; step = None }

-- a swap of a replayed chain that is not made, at its step
abbrev pub told_swap : SwapFault → ℕ → Told
told_swap NoLine n = plain 11 part.Replay n
told_swap Lacks n = plain 12 part.Replay n
told_swap Overflow n = plain 7 part.Step n

-- a step that is not made, or a pair that cannot be formed, at its place
abbrev pub told_step : StepFault → ℕ → Told
told_step Spent k = plain 6 part.Step k
told_step step.Overflow k = plain 7 part.Step k

-- the number, the part and the place of each refusal
abbrev pub told : Refusal → Told
told refusal.NotOpen = plain 1 part.Register 0
told refusal.NotSettled = plain 2 part.Register 0
told refusal.EmptySide = plain 3 part.Enter 0
told refusal.BookFull = plain 4 part.Enter 0
told refusal.Capacity = plain 5 part.Settle 0
told (refusal.Step f) = told_step f.fault (code f.place)
told (refusal.Full k) = plain 8 part.Adding (code k)
told (refusal.NoRoom k) = plain 9 part.Adding (code k)
told refusal.ShortChain = plain 10 part.Match 0
told (refusal.Replay f) = told_swap f.fault f.step

-- a round that is refused
abbrev pub as_refusal : RoundFault → Refusal
as_refusal (round.Step f) = refusal.Step f
as_refusal (round.Full k) = refusal.Full k
as_refusal (round.NoRoom k) = refusal.NoRoom k

-- the word for a part
abbrev pub word : Part → List ℕ
word part.Register = codes "register"
word part.Enter = codes "enter"
word part.Settle = codes "settle"
word part.Step = codes "step"
word part.Adding = codes "adding"
word part.Match = codes "match"
word part.Replay = codes "replay"

-- the place, and the step where a replay keeps one
abbrev pub place_words : ℕ → Option ℕ → List ℕ
place_words k None = decimal k
place_words k (Some n) = decimal k ++ (codes ", step " ++ decimal n)

-- a refusal in words, as it is printed
abbrev pub sentence : Told → List ℕ
sentence t = codes "refused " ++ (decimal t.number ++ (codes ": " ++ (word t.part ++ (codes ", place " ++ place_words t.place t.step))))
