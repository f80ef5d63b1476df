use Rattle.std.proofs.Common.{◌+◌, ◌-◌, List, ℕ, length, drop, get_or, refl, sym, subst, arith}
use Rattle.seal_logs.specs.declared.PlaceRead.{PlaceRead}
use Rattle.seal_logs.specs.Reads.{reads_in, ReadsDeed, MakesOf}
use Rattle.seal_logs.proofs.LatestLaws.{in_list, read_of}
use Rattle.seal_logs.proofs.ChainLaws.{chain_deed, makes_more}
use Rattle.seal_logs.proofs.following.make_cells.Goals.{in-Some, in-None}
use Rattle.seal_logs.proofs.following.make_cells.Goals as goal

pub bounds-reads-start : goal.bounds-reads-start
bounds-reads-start c =
    let has = chain_deed c.args.sizes (reads_in c.args.sizes c.args.reads.now c.args.bank) c.args.generation c.args.sizes.places c.requires.chain.0 c.args.chain.now c.requires.chain.1 (length c.args.chain.now - 1 - c.loop-i.i) (omega arith) in
    (in_list c.args.sizes.banks c.args.sizes.places c.args.bank (get_or c.args.chain.now (length c.args.chain.now - 1 - c.loop-i.i) 0) (length c.args.reads.now) c.requires.inside has.0 c.requires.fits)

pub loop-i-preserved : goal.loop-i-preserved
loop-i-preserved c =
    let has = chain_deed c.args.sizes (reads_in c.args.sizes c.args.reads.now c.args.bank) c.args.generation c.args.sizes.places c.requires.chain.0 c.args.chain.now c.requires.chain.1 (length c.args.chain.now - 1 - c.loop-i.i) (omega arith) in
    let below = (in_list c.args.sizes.banks c.args.sizes.places c.args.bank (get_or c.args.chain.now (length c.args.chain.now - 1 - c.loop-i.i) 0) (length c.args.reads.now) c.requires.inside has.0 c.requires.fits) in
    record {
      made = elim c.match-deed_of.branch [
        | in-Some w ↦ subst (λ (cells : List (List ℕ)). MakesOf (reads_in c.args.sizes c.args.reads.now c.args.bank) c.args.generation (drop (length c.args.chain.now - (c.loop-i.i + 1)) c.args.chain.now) c.args.cells.now cells) (sym w.cells-is)
            (makes_more (reads_in c.args.sizes c.args.reads.now c.args.bank) c.args.generation c.args.chain.now c.loop-i.i (c.loop-i.i + 1) (get_or c.args.chain.now (length c.args.chain.now - 1 - c.loop-i.i) 0) w.in-Some.deed c.args.cells.now c.loop-i.cells w.make_deed.new.cells (omega arith) refl refl
            (subst (λ (p : PlaceRead). ReadsDeed p c.args.generation w.in-Some.deed) (read_of c.args.sizes c.args.reads.now c.args.bank (get_or c.args.chain.now (length c.args.chain.now - 1 - c.loop-i.i) 0) _ below) (c.deed_of.ensures.some w.in-Some.deed w.in-Some.is))
            w.make_deed.ensures c.loop-i.invariant.made)
        | in-None w ↦ absurd (c.deed_of.ensures.none w.in-None.is has.1.0
            (subst (λ (p : PlaceRead). ReadsDeed p c.args.generation has.1.0) (sym (read_of c.args.sizes c.args.reads.now c.args.bank (get_or c.args.chain.now (length c.args.chain.now - 1 - c.loop-i.i) 0) _ below)) has.1.1))
      ];
    }
