-- Refusals of the parts of a difference, as refusals of the difference.
use Rattle.std.proofs.Common.{◌≡◌, ◌↔◌, ◌≤◌, ◌∙◌, ℕ, Bool, List, Option, nat_eq, Result, Ok, Err, ap, refl, subst, sym, inl, inr}
use Rattle.difference_text.specs.DifferenceText.{LackLayer}
use Rattle.shapes.specs.Maps.{Layers}
use Rattle.topo.specs.OfMap.{IsOf}
use Rattle.topo.specs.Parts.{TopologyParts}
use Rattle.topo_io.specs.Means.{Means, MeansTopology}
use Rattle.c_calls.specs.Options.{scope_of}
use Rattle.noshinka.specs.Differing.{HasDiffOptions, IsComparisonText, IsDiffAnswer, IsDiffAsked, IsDiffRefusal, IsMeaningRefusal, IsTopologiesRefusal}
use Rattle.c_calls.specs.Why.{IsChoiceRefusal, IsScopeRefusal, IsTextRefusal}
use Rattle.noshinka.specs.declared.differing.DiffOptions.{DiffOptions}
use Rattle.c_calls.specs.declared.refusal.CallRefusal.{CallRefusal}
use Rattle.c_calls.specs.declared.refusal.CallRefusal.TheVariants.{BadChoice, OtherGrid, NoLayer, OutOfMemory}

pub other_grid : (s t : TopologyParts) (layer : Option (List ℕ)) → (s.grid ≡ t.grid → ⊥) → IsTopologiesRefusal s t layer (OtherGrid 1)
other_grid s t layer apart = inr (inr (refl, apart))

pub no_layer : (s t : TopologyParts) (layer : Option (List ℕ)) {T E : Type 0} (f e : E) → f ≡ e →
    ((m n : Layers) → IsOf m s → IsOf n t → (◌≡◌ {A = Result T E} (Err f) (Err e)) ↔ ((s.grid ≡ t.grid) × LackLayer layer m n)) → s.grid ≡ t.grid → IsTopologiesRefusal s t layer NoLayer
no_layer s t layer f e told exact same = inr (inl (refl, (same, λ m n of of_others. ((exact m n of of_others).0 (ap Err told)).1)))

pub no_memory : (s t : TopologyParts) (layer : Option (List ℕ)) → IsTopologiesRefusal s t layer OutOfMemory
no_memory s t layer = inl refl

pub bad_size : (a : DiffOptions) (old new : List ℕ) → (a.size ≡ 56 → ⊥) → IsDiffRefusal a old new BadChoice
bad_size a old new h = inl (refl, h)

pub bad_json : (a : DiffOptions) (old new : List ℕ) (r : CallRefusal) → IsChoiceRefusal (2 ≤ a.json) r → IsDiffRefusal a old new r
bad_json a old new r h = inr (inl h)

pub bad_layer : (a : DiffOptions) (old new : List ℕ) (r : CallRefusal) → IsScopeRefusal a.scope a.layer.now r → IsDiffRefusal a old new r
bad_layer a old new r h = inr (inr (inl h))

pub bad_key : (a : DiffOptions) (old new : List ℕ) (r : CallRefusal) → IsScopeRefusal a.pairing a.key.now r → IsDiffRefusal a old new r
bad_key a old new r h = inr (inr (inr (inl h)))

pub old_refused : (a : DiffOptions) (old new : List ℕ) (r : CallRefusal) → IsTextRefusal 0 old r → IsDiffRefusal a old new r
old_refused a old new r h = inr (inr (inr (inr (inl h))))

pub new_refused : (a : DiffOptions) (old new : List ℕ) (r : CallRefusal) → IsTextRefusal 1 new r → IsDiffRefusal a old new r
new_refused a old new r h = inr (inr (inr (inr (inr (inl h)))))

pub both_refused : (a : DiffOptions) (old new : List ℕ) (s t : TopologyParts) → MeansTopology old s → MeansTopology new t → (layer : Option (List ℕ)) → layer ≡ scope_of a.scope a.layer.now →
    (r : CallRefusal) → IsTopologiesRefusal s t layer r → IsDiffRefusal a old new r
both_refused a old new s t means others layer named r h = inr (inr (inr (inr (inr (inr (go h))))))
  where
    go : IsTopologiesRefusal s t layer r → IsMeaningRefusal old new (scope_of a.scope a.layer.now) r
    go (inl e) = inl e
    go (inr (inl h)) =
        let (m, is, of) = means in
        let (n, also, of_others) = others in
        inr (inl (
          h.0,
          record {
            grid = s.grid;
            olds = m;
            news = n;
            means = is;
            others_mean = subst (λ g. Means new g n) (sym h.1.0) also;
            lack = subst (λ l. LackLayer l m n) named (h.1.1 m n of of_others);
          },
        ))
    go (inr (inr h)) =
        let (m, is, of) = means in
        let (n, also, of_others) = others in
        inr (inr (h.0, λ e. h.1 (is.grid ∙ e ∙ sym also.grid)))

pub layer_says : (s t : TopologyParts) (layer : Option (List ℕ)) {T E : Type 0} (x : T) (e : E) →
    ((m n : Layers) → IsOf m s → IsOf n t → (◌≡◌ {A = Result T E} (Ok x) (Err e)) ↔ ((s.grid ≡ t.grid) × LackLayer layer m n)) → s.grid ≡ t.grid →
    (m n : Layers) → IsOf m s → IsOf n t → ¬ LackLayer layer m n
layer_says s t layer x e exact same m n of of_others lack = ok_no_err x e ((exact m n of of_others).1 (same, lack))
  where
    ok_no_err : {T E : Type 0} (x : T) (e : E) → ◌≡◌ {A = Result T E} (Ok x) (Err e) → ⊥
    ok_no_err x e f = cc

pub diff_answer : (old new : List ℕ) (s t : TopologyParts) → MeansTopology old s → MeansTopology new t → {layer key l k : Option (List ℕ)} {j b : Bool} → layer ≡ l → key ≡ k → j ≡ b → (u : List ℕ) →
    IsComparisonText s t layer key j u → IsDiffAnswer old new l k b u
diff_answer old new s t means others {layer} {key} {l} {k} {j} {b} e f g u is = record {
  olds = s;
  news = t;
  means = means;
  others_mean = others;
  is = subst (λ a. IsComparisonText s t l k a u) g (subst (λ a. IsComparisonText s t l a j u) f (subst (λ a. IsComparisonText s t a key j u) e is));
}

-- the same where the options are choices
pub diff_asked : (a : DiffOptions) (old new : List ℕ) (s t : TopologyParts) → HasDiffOptions a → MeansTopology old s → MeansTopology new t → {layer key : Option (List ℕ)} {j : Bool} → layer ≡ scope_of a.scope a.layer.now →
    key ≡ scope_of a.pairing a.key.now → j ≡ nat_eq a.json 1 → (u : List ℕ) → IsComparisonText s t layer key j u → IsDiffAsked a old new u
diff_asked a old new s t chosen means others e f g u is = (chosen, diff_answer old new s t means others e f g u is)
