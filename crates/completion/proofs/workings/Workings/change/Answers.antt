use Rattle.std.proofs.Common.{◌≡◌, ◌+◌, length, is_ok, sym, ap, ◌∙◌, subst, arith}
use Rattle.std.proofs.lemmas.List.{length_push}
use Rattle.tables.specs.Citing.{citable}
use Rattle.tables.proofs.Citing.{citable-at}
use Rattle.questions.specs.declared.question.Fork.{Fork}
use Rattle.questions.specs.Questions.{Cited}
use Rattle.questions.specs.Asking.{parting_of}
use Rattle.completion.specs.States.{held}
use Rattle.completion.specs.Adding.{derived}
use Rattle.completion.specs.Changing.{right_place}
use Rattle.completion.proofs.Leaving.{answered_value, answered-leaves}
use Rattle.completion.proofs.Rooms.{added-length, derived-room}
use Rattle.completion.proofs.Renewing.{told_at, renewal-counted, change_made, change-left}
use Rattle.completion.proofs.workings.Workings.change.Goals as goal

pub note-requires : goal.note-requires
note-requires c =
    let s = held c.args.self.now in
    let f = c.args.found.now in
    let x = c.in_ok-reduced.reduced in
    let h = c.renewal-fork.result in
    let is = told_at (right_place f.place) s.table c.rules-rules.result.now c.args.budget f.rule.right x c.reduce.result c.in_ok-reduced.ensures c.reduce.ensures.is c.rules-rules.ensures.value in
    let counted = renewal-counted c.args.equations c.args.budget f s x h is c.renewal-fork.ensures in
    record {
      counted = counted;
      cited = subst (λ (k : Fork). Cited k.question.bridge) (sym c.renewal-fork.ensures) (citable-at s.table f.place f.rule c.requires.within c.requires.stands (ap citable (sym c.rules-rules.ensures.value) ∙ c.rules-rules.ensures.cited));
      room = derived-room s.added s.table h c.chain_length.result counted c.chain_length.ensures ∙ sym c.if-not-has_room.ensures;
    }

pub returns : goal.returns
returns c =
    let s = held c.args.self.now in
    let f = c.args.found.now in
    let x = c.in_ok-reduced.reduced in
    let h = c.renewal-fork.result in
    let w = c.note.new.self in
    let is = told_at (right_place f.place) s.table c.rules-rules.result.now c.args.budget f.rule.right x c.reduce.result c.in_ok-reduced.ensures c.reduce.ensures.is c.rules-rules.ensures.value in
    let counted = renewal-counted c.args.equations c.args.budget f s x h is c.renewal-fork.ensures in
    let room = derived-room s.added s.table h c.chain_length.result counted c.chain_length.ensures ∙ sym c.if-not-has_room.ensures in
    let made = change_made c.args.equations c.args.budget f s x h is c.renewal-fork.ensures room in
    let more : length (held w).added ≡ length s.added + 1 = ap length c.note.ensures.added ∙ length_push s.added (derived (parting_of s.table h)) in
    record {
      value = answered_value s _ _ _ made;
      after = answered-leaves s _ _ _ _ made
          (change-left c.args.equations c.args.budget f s x h is c.renewal-fork.ensures w.table c.replace.new.self _ (is_ok c.replace.result) (held w).added
          c.note.ensures.table (ap is_ok c.unwrap.ensures) c.replace.ensures.after c.note.ensures.added (omega (arith, added-length w)));
    }
