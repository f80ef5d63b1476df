use Rattle.std.proofs.Common.{◌≡◌, ◌≤◌, ◌-◌, ◌∙◌, ℕ, List, Some, length, take, refl, sym, ap}
use Rattle.std.proofs.lemmas.List.{length-take-le}
use Rattle.seal_logs.specs.Reads.{reads_in}
use Rattle.seal_logs.specs.Starts.{has_two_latest, lacks_line, lacks_deed, is_begun}
use Rattle.seal_logs.proofs.StartLaws.{is_jammed, is_found}
use Rattle.seal_logs.proofs.starting.find_start.Goals as goal

pub returns-in-Tie : goal.returns-in-Tie
returns-in-Tie c = record { finds = has_two_latest c.in-Tie.field-0 c.in-Tie.ensures }

pub returns-then-lacks_line : goal.returns-then-lacks_line
returns-then-lacks_line c = record { finds = lacks_line c.in-One.found c.in-One.ensures (c.lacks_line.ensures.lacks c.if-lacks_line.true) }

pub returns-in-None : goal.returns-in-None
returns-in-None c = record { finds = lacks_deed c.in-One.found c.in-One.ensures (λ chain h. c.follow.ensures.broken c.in-None.is chain h) }

pub returns-then-is_new : goal.returns-then-is_new
returns-then-is_new c = record {
  finds = is_begun c.in-One.found (take c.in-Some.count c.follow.new.chain) c.in-One.ensures (c.lacks_line.ensures.has c.if-lacks_line.false)
      (c.follow.ensures.chain c.in-Some.count c.in-Some.is) (c.is_new.ensures.is c.if-is_new.true);
}

pub returns-then-not-has_home : goal.returns-then-not-has_home
returns-then-not-has_home c = record { finds = c.has_home.ensures.lacks c.if-not-has_home.true }

pub returns-then-not-has_room : goal.returns-then-not-has_room
returns-then-not-has_room c = record {
  finds = is_jammed c.args.sizes (reads_in c.args.sizes c.args.reads.now) c.found_of-found.result c.in-One.found (take c.in-Some.count c.follow.new.chain) c.has_home.new.cells c.found_of-found.ensures.latest
      (record { latest = c.in-One.ensures; lines = c.lacks_line.ensures.has c.if-lacks_line.false; followed = c.follow.ensures.chain c.in-Some.count c.in-Some.is; old = c.is_new.ensures.isnt c.if-is_new.false; home = c.has_home.ensures.has c.if-not-has_home.false; home_lines = c.has_home.ensures.lines c.if-not-has_home.false }) c.found_of-found.ensures.next c.found_of-found.ensures.home_next c.found_of-found.ensures.clean (c.has_room.ensures.full c.if-not-has_room.true);
}

pub make_cells-requires-clause-chain : goal.make_cells-requires-clause-chain
make_cells-requires-clause-chain c = (Some c.in-One.found.place, c.follow.ensures.chain c.in-Some.count c.in-Some.is)

lacks : (n : ℕ) (xs : List ℕ) (lacking : ℕ) → n ≤ length xs → lacking ≡ 2 - n → lacking ≡ 2 - length (take n xs)
lacks n xs lacking fits is = is ∙ ap (λ m. 2 - m) (sym (length-take-le n xs fits))

pub returns-then-not-is_move : goal.returns-then-not-is_move
returns-then-not-is_move c = record {
  finds = is_found c.args.sizes (reads_in c.args.sizes c.args.reads.now) c.found_of-found.result c.in-One.found (take c.in-Some.count c.follow.new.chain) c.has_home.new.cells c.found_of-found.ensures.latest
      (record { latest = c.in-One.ensures; lines = c.lacks_line.ensures.has c.if-lacks_line.false; followed = c.follow.ensures.chain c.in-Some.count c.in-Some.is; old = c.is_new.ensures.isnt c.if-is_new.false; home = c.has_home.ensures.has c.if-not-has_home.false; home_lines = c.has_home.ensures.lines c.if-not-has_home.false }) c.found_of-found.ensures.next c.found_of-found.ensures.home_next c.found_of-found.ensures.clean c.make_cells.new.cells
      c.found_of-found.ensures.home c.found_of-found.ensures.generation (lacks c.in-Some.count c.follow.new.chain c.found_of-found.result.lacking (c.follow.ensures.count c.in-Some.count c.in-Some.is) c.found_of-found.ensures.lacking) (λ move. absurd (c.is_move.ensures.isnt c.if-not-is_move.true move)) (λ still. c.make_cells.ensures)
      (c.has_room.ensures.room c.if-not-has_room.false) (c.has_room.ensures.home c.if-not-has_room.false);
}

pub returns-else-not-is_move : goal.returns-else-not-is_move
returns-else-not-is_move c = record {
  finds = is_found c.args.sizes (reads_in c.args.sizes c.args.reads.now) c.found_of-found.result c.in-One.found (take c.in-Some.count c.follow.new.chain) c.has_home.new.cells c.found_of-found.ensures.latest
      (record { latest = c.in-One.ensures; lines = c.lacks_line.ensures.has c.if-lacks_line.false; followed = c.follow.ensures.chain c.in-Some.count c.in-Some.is; old = c.is_new.ensures.isnt c.if-is_new.false; home = c.has_home.ensures.has c.if-not-has_home.false; home_lines = c.has_home.ensures.lines c.if-not-has_home.false }) c.found_of-found.ensures.next c.found_of-found.ensures.home_next c.found_of-found.ensures.clean c.has_home.new.cells
      c.found_of-found.ensures.home c.found_of-found.ensures.generation (lacks c.in-Some.count c.follow.new.chain c.found_of-found.result.lacking (c.follow.ensures.count c.in-Some.count c.in-Some.is) c.found_of-found.ensures.lacking) (λ move. refl) (λ still. absurd (still (c.is_move.ensures.is c.if-not-is_move.false)))
      (c.has_room.ensures.room c.if-not-has_room.false) (c.has_room.ensures.home c.if-not-has_room.false);
}
