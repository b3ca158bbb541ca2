use Rattle.std.proofs.Common.{Result, Ok, Err, OnOk}
use Rattle.reading.proofs.part.keep_named.Goals as goal

on_ok : {A E : Type 0} (r : Result A E) (P Q : Type 0) → (P → Q) → OnOk r P → OnOk r Q
on_ok (Ok x) P Q f p = f p
on_ok (Err e) P Q f p = p

pub returns-in-Ok-clause-ok : goal.returns-in-Ok-clause-ok
returns-in-Ok-clause-ok g c = on_ok c.keep.result _ _ (λ items. (c.in-Ok.name, c.in-Ok.ensures.ok, items)) c.keep.ensures.ok
