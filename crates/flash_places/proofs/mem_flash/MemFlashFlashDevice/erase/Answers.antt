use Rattle.flash_places.proofs.ListLaws.{erase_done, erase_cut}
use Rattle.flash_places.proofs.mem_flash.MemFlashFlashDevice.erase.Goals as goal

pub returns-then-count-clause-cut : goal.returns-then-count-clause-cut
returns-then-count-clause-cut c =
    erase_cut c.args.self.now.places c.args.bank c.start_of-start.result _ _ c.start_of-start.ensures.start c.loosen_range.ensures.contents c.loosen_range.ensures.rest

pub returns-clause-done : goal.returns-clause-done
returns-clause-done c =
    erase_done c.args.self.now.places c.args.bank c.start_of-start.result _ _ c.start_of-start.ensures.start c.blank_range.ensures.blank c.blank_range.ensures.rest
