-- `text_line::served` meets its contract: a client's bytes are inside.
use Rattle.std.proofs.Common.{sym, ◌∙◌}
use Rattle.text_form.specs.Laws.Clients.{client-inside}
use Rattle.text_line.proofs.served.Goals as goal

pub slice_bounds-ended-count : goal.slice_bounds-ended-count
slice_bounds-ended-count c = client-inside _ (sym c.client.ensures ∙ c.in_ok-client.was)

pub slice_bounds-ended-start : goal.slice_bounds-ended-start
slice_bounds-ended-start c = client-inside _ (sym c.client.ensures ∙ c.in_ok-client.was)
