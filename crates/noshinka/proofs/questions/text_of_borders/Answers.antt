use Rattle.std.proofs.Common.{ap, ◌∙◌}
use Rattle.query.specs.AnswerTexts.{mesh_text}
use Rattle.topo_io.proofs.SinkLemmas.{appended}
use Rattle.noshinka.proofs.Texts.{scope_kept}
use Rattle.noshinka.proofs.questions.text_of_borders.Goals as goal

pub returns-in-Ok-clause-text : goal.returns-in-Ok-clause-text
returns-in-Ok-clause-text c = (
  (λ m of. scope_kept _ _ m _ (c.in_ok-lines.ensures.layer m of)),
  c.in_ok-lines.lines,
  c.in_ok-lines.ensures.lines,
  appended _ _ _ _ (ap (λ s. s.bytes) c.new-kept.ensures) c.into_bytes.ensures c.in-Ok.ensures.whole.bytes ∙ ap (λ g. mesh_text g c.in_ok-lines.lines.arcs) c.grid.ensures,
)
