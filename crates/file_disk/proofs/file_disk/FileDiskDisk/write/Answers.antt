-- The range is loose, and the file, if it was asked, put something there.
use Rattle.std.proofs.Common.{length, arith, refl, ap}
use Rattle.file_disk.specs.FileBytes.{loose_since}
use Rattle.file_disk.specs.FileDisk.{FileContents}
use Rattle.file_disk.proofs.Marks.{marked_more, inside_told, any_of_same, any_of_either, tells_put, tears_after, on_err}
use Rattle.file_disk.proofs.file_disk.FileDiskDisk.write.Goals as goal

pub invariant_of-self-clause-marked : goal.invariant_of-self-clause-marked
invariant_of-self-clause-marked g c =
    marked_more c.args.at (length c.args.bytes.now) (loose_since c.args.self.now.size c.args.self.now.written.numbers) c.requires.inside c.args.self.now.marked
    (ap (loose_since c.args.self.now.size) c.with_write.ensures)

pub returns-in_err-count-clause-torn : goal.returns-in_err-count-clause-torn
returns-in_err-count-clause-torn g c =
    let same = ap (λ (x : FileContents). x.size) c.count.ensures.contents in
    on_err c.from_residual.result
    (tears_after (g.F.ByteFile.told c.args.self.now.file) (g.F.ByteFile.told c.count.new.self.file) _ _ _ c.args.at (length c.args.bytes.now)
    (ap (λ (x : FileContents). x.told) c.count.ensures.contents)
    (any_of_same c.args.at (length c.args.bytes.now) refl (inside_told c.args.at (length c.args.bytes.now) c.count.new.self.as_told (omega (arith, same, c.requires.inside))))
    (ap (loose_since c.args.self.now.size) c.with_write.ensures))

pub invariant_of-self-2-clause-as_told : goal.invariant_of-self-2-clause-as_told
invariant_of-self-2-clause-as_told g c =
    let same = ap (λ (x : FileContents). x.size) c.count.ensures.contents in
    tells_put c.args.at (g.F.ByteFile.told c.count.new.self.file) c.write_at-outcome.ensures.tells
    (any_of_either c.args.at c.args.bytes.now c.write_at-outcome.result c.write_at-outcome.ensures.written c.write_at-outcome.ensures.torn)
    (omega (arith, same, c.requires.inside)) c.count.new.self.as_told

pub returns-clause-torn : goal.returns-clause-torn
returns-clause-torn g c =
    on_err c.count_outcome.result
    (tears_after (g.F.ByteFile.told c.args.self.now.file) (g.F.ByteFile.told c.count.new.self.file) _ _ _ c.args.at (length c.args.bytes.now)
    (ap (λ (x : FileContents). x.told) c.count.ensures.contents)
    (any_of_either c.args.at c.args.bytes.now c.write_at-outcome.result c.write_at-outcome.ensures.written c.write_at-outcome.ensures.torn)
    (ap (loose_since c.args.self.now.size) c.with_write.ensures))
