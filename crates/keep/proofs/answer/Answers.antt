-- What was written is the text for what was read, which is the text for the file.
use Rattle.keep.proofs.Counted.{text_of_read}
use Rattle.keep.proofs.answer.Goals as goal

pub returns-in-Ok-print : goal.returns-in-Ok-print
returns-in-Ok-print g c =
    text_of_read _ _ _ _ _ _ _ c.read_file.auto.front c.read_file.auto.behind c.in-Ok.ensures.room c.in-Ok.ensures.first c.in-Ok.ensures.rest c.in-Ok-print.ensures
