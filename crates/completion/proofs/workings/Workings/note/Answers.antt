use Rattle.std.proofs.Common.{length, ap, ◌∙◌, ap₂, arith}
use Rattle.worksheet.specs.Derivations.{derivations, lengths}
use Rattle.questions.specs.Asking.{parting_of}
use Rattle.completion.specs.Adding.{derived}
use Rattle.completion.specs.States.{lines_of, chain_of}
use Rattle.completion.proofs.Deriving.{derivations_more, lengths-push}
use Rattle.completion.proofs.Rooms.{roomy_parts, derived-length}
use Rattle.completion.proofs.workings.Workings.note.Goals as goal

pub push-requires : goal.push-requires
push-requires c =
    let w = c.args.self.now in
    let f = c.args.fork.now in
    let long = derived-length w.table f c.requires.counted in
    let room = roomy_parts w (length (derived (parting_of w.table f)).chain) c.requires.room in
    omega arith

pub push_reserved-requires : goal.push_reserved-requires
push_reserved-requires c =
    let w = c.args.self.now in
    let room = roomy_parts w (length (derived (parting_of w.table c.args.fork.now)).chain) c.requires.room in
    omega arith

pub invariant_of-self : goal.invariant_of-self
invariant_of-self c =
    let w = c.args.self.now in
    let f = c.args.fork.now in
    let long = derived-length w.table f c.requires.counted in
    let room = roomy_parts w (length (derived (parting_of w.table f)).chain) c.requires.room in
    let sum = ap lengths c.push_reserved.ensures.items ∙ lengths-push (lines_of w) _ in
    record { room = (omega arith, omega arith); few = (omega arith, omega arith); summed = omega (arith, sum) }

pub returns-clause-added : goal.returns-clause-added
returns-clause-added c =
    let w = c.args.self.now in
    let f = c.args.fork.now in
    let long = derived-length w.table f c.requires.counted in
    ap₂ derivations c.push_reserved.ensures.items c.push.ensures.items ∙ derivations_more (lines_of w) _ (chain_of w) (derived (parting_of w.table f)).chain (omega arith) (omega arith)
