use Rattle.std.proofs.Common.{◌≡◌, ◌∙◌, ◌∷◌, ◌++◌, [], ap, append_assoc, append-nil, arith, inr, length, refl, subst, sym}
use Rattle.rounded_maps.specs.Files.{AreOfFile, AreRounded, File, file_of, files_of}
use Rattle.rounded_maps.specs.Refusals.{IsFirstFrom}
use Rattle.rounded_maps.proofs.Ends.{nothing_left}
use Rattle.rounded_maps.proofs.Faultless.{files_sound}
use Rattle.rounded_maps.proofs.files.read_maps.Goals as goal

pub loop-source-preserved : goal.loop-source-preserved
loop-source-preserved g c =
    let rules = c.args.rules.now in
    let n = c.loop-source.place in
    let files = files_of g.T.AsSlice.items in
    let maps = c.loop-source.read.maps.items in
    let origins = c.loop-source.read.origins.items in
    let left = c.next.new.self.rest.items in
    let split = c.in-Some.ensures.steps.0 in
    let file : File = file_of c.in-Some.source.is_sequence c.in-Some.source.is_named (g.T.AsSlice.items c.in-Some.source.bytes) in
    let more = c.in_ok-add_file.ensures.more in
    let ms = more.0 in
    let os = more.1.0 in
    let of = more.1.1.0 in
    let grown = more.1.1.1.0 in
    let from = more.1.1.1.1 in
    let one : AreOfFile rules n file ms os = rw c.as_slice-bytes.ensures at of in
    let len = ap length split in
    let place = c.loop-source.invariant.place in
    record {
      rounded = λ more others h.
          let all : AreRounded rules n (file ∷ files left) (ms ++ more) (os ++ others) = (ms, (more, (os, (others, (refl, (refl, (one, h))))))) in
          subst (λ ms. AreRounded rules 0 (files c.args.sources.items) ms (c.add_file.new.read.origins.items ++ others)) (sym (ap (λ l. l ++ more) grown ∙ append_assoc maps ms more))
          (subst (λ os. AreRounded rules 0 (files c.args.sources.items) (maps ++ (ms ++ more)) os) (sym (ap (λ l. l ++ others) from ∙ append_assoc origins os others))
          (c.loop-source.invariant.rounded (ms ++ more) (os ++ others) (subst (λ ss. AreRounded rules n (files ss) (ms ++ more) (os ++ others)) (sym split) all)));
      refused = λ place fault h.
          c.loop-source.invariant.refused place fault
          (subst (λ ss. IsFirstFrom rules n (files ss) place fault) (sym split) (inr (record { maps = ms; origins = os; are = one }, h)));
      place = omega (arith, len, place);
    }

all_read : goal.returns-clause-rounded
all_read g c =
    let rules = c.args.rules.now in
    let n = c.loop-source.place in
    let files = files_of g.T.AsSlice.items in
    let left = c.loop-source.source-iterator.rest in
    let ok = left.ok in
    let len = c.in-None.ensures.steps.0 in
    let none : left.items ≡ [] = nothing_left left.items (omega (arith, ok, len)) in
    let nothing : AreRounded rules n (files left.items) [] [] = subst (λ ss. AreRounded rules n (files ss) [] []) (sym none) (refl, refl) in
    subst (λ ms. AreRounded rules 0 (files c.args.sources.items) ms c.loop-source.read.origins.items) (append-nil c.loop-source.read.maps.items)
    (subst (λ os. AreRounded rules 0 (files c.args.sources.items) (c.loop-source.read.maps.items ++ []) os) (append-nil c.loop-source.read.origins.items) (c.loop-source.invariant.rounded [] [] nothing))

pub returns-clause-rounded : goal.returns-clause-rounded
returns-clause-rounded g c = all_read g c

pub returns-clause-faultless : goal.returns-clause-faultless
returns-clause-faultless g c =
    files_sound c.args.rules.now 0 (files_of g.T.AsSlice.items c.args.sources.items) c.loop-source.read.maps.items c.loop-source.read.origins.items c.size-step.ensures.limits (all_read g c)
