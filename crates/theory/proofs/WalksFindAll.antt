-- Walks from stops, and then round what is left, find all chains of a network.
use Rattle.std.proofs.Common.{◌≡◌, List, [], ◌∷◌, ◌⊎◌, inl, inr, Option, None}
use Rattle.std.specs.Cmp.{IsTotalOrder}
use Rattle.std.specs.FinMap.{IsAntisymmetric}
use Rattle.std.specs.declared.cmp.Ordering.{Ordering}
use Rattle.theory.proofs.Ascending.{at_most_same}
use Rattle.theory.proofs.Chains.{all_chains}
use Rattle.theory.proofs.ListsOfLists.{Each-all}
use Rattle.theory.proofs.Networks.{Joins-flip}
use Rattle.theory.proofs.Walking.{from_stop, from_seam, all_covered, none_some}
use Rattle.theory.specs.Geometry.{AtMost}
use Rattle.theory.specs.Lists.{Has}
use Rattle.theory.specs.Network.{Network, Joins, IsStop, IsNetwork, IsChainIn, AreAllChains}
use Rattle.theory.specs.Walking.{Joining, StopsCovered, Found, WalkedFromAStop, WalkedFromTheLeast}

pub Has-or-not : {V : Type 0} (dec : (a b : V) → Dec (a ≡ b)) (v : V) (l : List V) → Has v l ⊎ (¬ Has v l)
Has-or-not dec v [] = inr (λ h. h)
Has-or-not dec v (x ∷ l) =
    elim (dec v x) [
      | yes e ↦ inl (inl e)
      | no n ↦ elim (Has-or-not dec v l) [ inl h ↦ inl (inr h) | inr k ↦ inr (λ h. elim h [ inl e ↦ n e | inr j ↦ k j ]) ]
    ]

pub same_or_not : {V : Type 0} (dec : (a b : V) → Dec (a ≡ b)) (u v : V) → (u ≡ v) ⊎ (¬ (u ≡ v))
same_or_not dec u v = elim (dec u v) [ yes e ↦ inl e | no n ↦ inr n ]

module _ {V : Type 0} (cmp : V → V → Ordering) (o : IsTotalOrder cmp) (same : IsAntisymmetric cmp) (dec : (a b : V) → Dec (a ≡ b))
    (n : Network V) (ok : IsNetwork n) where
  turn : (u v : V) → Joins n u v → Joins n v u
  turn = Joins-flip n

  pub at_same : (u v : V) → AtMost cmp u v → AtMost cmp v u → u ≡ v
  at_same = at_most_same cmp o same

  pub stop_or_not : (v : V) → IsStop n v ⊎ (¬ IsStop n v)
  stop_or_not v = Has-or-not dec v n.stops

  -- one more walk
  by_stop : (m k : V → Option (V × V)) (ds : List (List V)) → Joining (Joins n) (IsStop n) (AtMost cmp) m (λ e. Has e ds) →
      (d : List V) → WalkedFromAStop n m d k → Joining (Joins n) (IsStop n) (AtMost cmp) k (λ e. Has e (d ∷ ds))
  by_stop m k ds j [] w = absurd w
  by_stop m k ds j (x ∷ []) w = absurd w
  by_stop m k ds j (x ∷ (c ∷ l)) w =
      from_stop (Joins n) (IsStop n) (AtMost cmp) turn ok.two at_same ok.apart stop_or_not (same_or_not dec)
      (λ e. Has e ds) m j x c l k w.0 w.1 w.2 w.3

  by_least : (m k : V → Option (V × V)) (ds : List (List V)) → Joining (Joins n) (IsStop n) (AtMost cmp) m (λ e. Has e ds) →
      StopsCovered n ds → (d : List V) → WalkedFromTheLeast cmp m d k → Joining (Joins n) (IsStop n) (AtMost cmp) k (λ e. Has e (d ∷ ds))
  by_least m k ds j covered [] w = absurd w
  by_least m k ds j covered (x ∷ []) w = absurd w
  by_least m k ds j covered (x ∷ (c ∷ l)) w =
      from_seam (Joins n) (IsStop n) (AtMost cmp) turn ok.two at_same ok.apart stop_or_not (same_or_not dec)
      (λ e. Has e ds) m j x c w.0 l w.1 k w.2 w.4 w.3 covered w.5

  pub joining : (k : V → Option (V × V)) (ds : List (List V)) → Found cmp n k ds → Joining (Joins n) (IsStop n) (AtMost cmp) k (λ d. Has d ds)
  joining k [] f = record {
    links = f.recorded;
    chains = λ d h. absurd h;
    apart = λ d h. absurd h;
    known = λ v w j s e. let t = f.every v w j s in absurd (none_some (k v) (t.0, t.1) e t.2);
  }
  joining k (d ∷ ds) (m, f, inl w) = by_stop m k ds (joining m ds f) d w
  joining k (d ∷ ds) (m, f, inr w) = by_least m k ds (joining m ds f) w.0 d w.1

  pub walks_find_all : (k : V → Option (V × V)) (ds : List (List V)) → Found cmp n k ds → ((v : V) → k v ≡ None) → StopsCovered n ds → AreAllChains cmp n ds
  walks_find_all k ds f none covered = record {
    chains = Each-all (IsChainIn cmp n) ds j.chains;
    all = all_chains (Joins n) (IsStop n) (AtMost cmp) turn ok.two at_same (λ d. Has d ds) j.chains
        (all_covered (Joins n) (IsStop n) (AtMost cmp) turn ok.two at_same ok.apart stop_or_not (same_or_not dec)
        (λ e. Has e ds) k j none covered);
  }
    where
      j : Joining (Joins n) (IsStop n) (AtMost cmp) k (λ d. Has d ds)
      j = joining k ds f
