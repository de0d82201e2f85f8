use Rattle.std.proofs.Common.{◌≡◌, ◌+◌, ◌<◌, length, is_ok, sym, refl, ap, ◌∙◌, arith}
use Rattle.std.proofs.lemmas.List.{length_push}
use Rattle.tables.specs.Placing.{without}
use Rattle.questions.specs.Asking.{parting_of}
use Rattle.completion.specs.declared.fault.RoundFault.TheVariants.{NoRoom}
use Rattle.completion.specs.States.{held}
use Rattle.completion.specs.Adding.{derived}
use Rattle.completion.proofs.Leaving.{refused_value, refused_leaves, answered_value, answered-leaves}
use Rattle.completion.proofs.Rooms.{added-length, derived-room}
use Rattle.completion.proofs.Forking.{oriented-counted, oriented_cited, fork_no_room, fork_added, fork_left}
use Rattle.completion.proofs.workings.Workings.add.Goals as goal

pub returns-then-not-has_room : goal.returns-then-not-has_room
returns-then-not-has_room g c =
    let above = g.O.Order.above c.args.task.now.order.now in
    let s = held c.args.self.now in
    let f = c.args.fork.now in
    let h = c.oriented-fork.result in
    let counted = oriented-counted above s.table f h c.oriented-fork.ensures c.requires.counted in
    let none = derived-room s.added s.table h c.chain_length.result counted c.chain_length.ensures ∙ sym c.if-not-has_room.ensures in
    let out = fork_no_room above c.args.task.now.capacity.rules (length c.args.task.now.book.now) f h s c.oriented-fork.ensures (omega arith) none in
    record { value = refused_value s _ (NoRoom h.question.place) out; after = refused_leaves s _ (NoRoom h.question.place) s out refl }

pub note-requires : goal.note-requires
note-requires g c =
    let above = g.O.Order.above c.args.task.now.order.now in
    let s = held c.args.self.now in
    let f = c.args.fork.now in
    let h = c.oriented-fork.result in
    let counted = oriented-counted above s.table f h c.oriented-fork.ensures c.requires.counted in
    record {
      counted = counted;
      cited = oriented_cited above s.table f h c.oriented-fork.ensures c.requires.cited;
      room = derived-room s.added s.table h c.chain_length.result counted c.chain_length.ensures ∙ sym c.if-not-has_room.ensures;
    }

pub returns : goal.returns
returns g c =
    let above = g.O.Order.above c.args.task.now.order.now in
    let s = held c.args.self.now in
    let f = c.args.fork.now in
    let h = c.oriented-fork.result in
    let w = c.note.new.self in
    let counted = oriented-counted above s.table f h c.oriented-fork.ensures c.requires.counted in
    let room = derived-room s.added s.table h c.chain_length.result counted c.chain_length.ensures ∙ sym c.if-not-has_room.ensures in
    let fewer : length (without h.first.end s.table) < c.args.task.now.capacity.rules = omega arith in
    let more : length (held w).added ≡ length s.added + 1 = ap length c.note.ensures.added ∙ length_push s.added (derived (parting_of s.table h)) in
    let added = fork_added above c.args.task.now.capacity.rules (length c.args.task.now.book.now) f h s c.oriented-fork.ensures fewer room in
    record {
      value = answered_value s _ _ _ added;
      after =
          answered-leaves s _ _ _ _ added
          (fork_left above c.args.task.now.capacity.rules (length c.args.task.now.book.now) f h s c.oriented-fork.ensures fewer c.remove.new.self c.put.new.self _ (is_ok c.put.result) (held w).added
          (c.remove.ensures ∙ ap (λ t. without h.first.end t) c.note.ensures.table) (ap is_ok c.unwrap.ensures) c.put.ensures.after c.note.ensures.added
          (omega (arith, added-length w, ap length c.equations.ensures.value)));
    }
