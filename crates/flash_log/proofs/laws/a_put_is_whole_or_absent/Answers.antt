use Rattle.flash_log.proofs.PutLaws.{put_done, put_cut}
use Rattle.flash_log.proofs.laws.a_put_is_whole_or_absent.Goals as goal

pub returns-clause-done : goal.returns-clause-done
returns-clause-done c l deeds first olds mids news start f h k x old mid new cell payload formatted lives =
    put_done l deeds first olds news start f x old new formatted lives mids h k mid cell payload

pub returns-clause-cut : goal.returns-clause-cut
returns-clause-cut c l deeds first olds news start f h k old new cell payload formatted lives =
    put_cut l deeds first olds news start f k old new formatted lives h cell payload
