-- `hubtext::convert` meets its contract: by whether the file can be read, and then by the reader's answer.
use Rattle.std.proofs.Common.{◌∙◌, ap, rules, sym}
use Rattle.std.specs.Prelude.{option_map}
use Rattle.hubtext.specs.Converts.{file-fault, file-read, file-unread}
use Rattle.hubtext.proofs.convert.Goals as goal

pub returns-in_default : goal.returns-in_default
returns-in_default g c =
    let w = file-unread c.args.it.now (search rules) _ (search rules) _ (ap (option_map (λ s. s.now)) c.in_default.is) (c.put_none.ensures.length, c.put_none.ensures.bytes) in
    record { length = w.0; bytes = w.1; within = w.2 }

pub returns-in-Ok : goal.returns-in-Ok
returns-in-Ok g c =
    let w = file-read c.args.it.now (search rules) _ (search rules) _ (ap (option_map (λ s. s.now)) c.in-Some.is) _ (sym c.in-Ok.is ∙ c.read_text.ensures.answer) c.read_text.ensures.bytes in
    record { length = w.0; bytes = w.1; within = w.2 }

pub returns-in-Err : goal.returns-in-Err
returns-in-Err g c =
    let w = file-fault c.args.it.now (search rules) _ (search rules) _ (ap (option_map (λ s. s.now)) c.in-Some.is) _ _ _ (sym c.in-Err.is ∙ c.read_text.ensures.answer) c.read_text.ensures.bytes (c.put_none-in-Err.ensures.length, c.put_none-in-Err.ensures.bytes) in
    record { length = w.0; bytes = w.1; within = w.2 }
