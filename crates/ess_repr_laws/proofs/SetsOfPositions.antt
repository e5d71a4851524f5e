-- Members of sets, multisets and functions match their values with positions, where their parts do.
use Rattle.std.proofs.Common.{◌≡◌, refl, sym, ap, ◌∙◌, true, ◌&&◌, List, length, option_map}
use Rattle.std.specs.List.{list_all}
use Rattle.ess_semantics.specs.Values.{a_set, a_mset, a_function, Value, node, of_list, pair, from_of, to_of, itself}
use Rattle.ess_semantics.specs.Collections.{rises, rises_weakly}
use Rattle.ess_semantics.specs.Domains.{Attribute, Domain, sets, msets, functions, members}
use Rattle.ess_semantics.specs.Attributes.{size_holds, function_holds, set_attributes_hold, mset_attributes_hold, function_attributes_hold}
use Rattle.ess_semantics.specs.Membership.{member, is_pair}
use Rattle.ess_semantics.specs.Positions.{with_positions, domain_with_positions}
use Rattle.ess_semantics.proofs.Tests.{and-left, and-right, and-both}
use Rattle.ess_repr_laws.proofs.CellsOfOccurrences.{set-member}
use Rattle.ess_repr_laws.proofs.Times.{mset-member}
use Rattle.ess_repr_laws.proofs.FunctionPairs.{function-member}
use Rattle.ess_repr_laws.proofs.OrderOfPositions.{Agree, pair-parts}
use Rattle.ess_repr_laws.proofs.ListsOfPositions.{with_each, from-with, length-with, all-there, rises-with, weakly-with}
use Rattle.ess_repr_laws.proofs.MembersOfPositions.{members-with}
use Rattle.ess_repr_laws.proofs.AllMembersListed.{listed-inside}
use Rattle.ess_repr_laws.proofs.AttributesOfPositions.{each-same, mset-attributes, function-same}
use Rattle.ess_repr_laws.proofs.MatchedMembers.{Back, Matched, all-so, function-made, is_entry, list-back, mset-made, node-from, node-with, set-made}

-- ---- sets and multisets

module _ (ks : List Attribute) (d : Domain) (agree : Agree (member d) (member d))
    (m : Matched (member d) (member (domain_with_positions d))) where
  -- Members of sets.
  pub sets-matched : Matched (member (sets ks d)) (member (sets ks (domain_with_positions d)))
  sets-matched = record { up = up; back = back }
    where
      up : (v : Value) → member (sets ks d) v ≡ true → member (sets ks (domain_with_positions d)) (with_positions v) ≡ true
      up v h =
          let x = set-member ks d v h in
          ap (member (sets ks (domain_with_positions d))) (node-with a_set x.0 v x.1)
          ∙ set-made ks (domain_with_positions d) (with_each x.0)
          (record {
            rise = rises-with (member d) agree itself (λ v. refl) x.0 x.2.inside ∙ x.2.rise;
            inside = all-there (member d) (member (domain_with_positions d)) m.up x.0 x.2.inside;
            attributes = ap (set_attributes_hold ks) (length-with x.0) ∙ x.2.attributes;
          })

      back : (w : Value) → member (sets ks (domain_with_positions d)) w ≡ true → Back (member (sets ks d)) w
      back w h =
          let x = set-member ks (domain_with_positions d) w h in
          let y = list-back (member d) (member (domain_with_positions d)) m x.0 x.2.inside in (
            node a_set (of_list y.0),
            set-made ks d y.0
                (record {
                  rise = sym (rises-with (member d) agree itself (λ v. refl) y.0 y.1) ∙ ap (rises itself) y.2 ∙ x.2.rise;
                  inside = y.1;
                  attributes = ap (set_attributes_hold ks) (sym (length-with y.0) ∙ ap length y.2) ∙ x.2.attributes;
                }),
            node-from a_set y.0 x.0 w x.1 y.2,
          )

  -- Members of multisets.
  pub msets-matched : Matched (member (msets ks d)) (member (msets ks (domain_with_positions d)))
  msets-matched = record { up = up; back = back }
    where
      up : (v : Value) → member (msets ks d) v ≡ true → member (msets ks (domain_with_positions d)) (with_positions v) ≡ true
      up v h =
          let x = mset-member ks d v h in
          ap (member (msets ks (domain_with_positions d))) (node-with a_mset x.0 v x.1)
          ∙ mset-made ks (domain_with_positions d) (with_each x.0)
          (record {
            rise = weakly-with (member d) agree x.0 x.2.inside ∙ x.2.rise;
            inside = all-there (member d) (member (domain_with_positions d)) m.up x.0 x.2.inside;
            attributes = mset-attributes (member d) agree ks x.0 x.2.inside ∙ x.2.attributes;
          })

      back : (w : Value) → member (msets ks (domain_with_positions d)) w ≡ true → Back (member (msets ks d)) w
      back w h =
          let x = mset-member ks (domain_with_positions d) w h in
          let y = list-back (member d) (member (domain_with_positions d)) m x.0 x.2.inside in (
            node a_mset (of_list y.0),
            mset-made ks d y.0
                (record {
                  rise = sym (weakly-with (member d) agree y.0 y.1) ∙ ap rises_weakly y.2 ∙ x.2.rise;
                  inside = y.1;
                  attributes = sym (mset-attributes (member d) agree ks y.0 y.1) ∙ ap (mset_attributes_hold ks) y.2 ∙ x.2.attributes;
                }),
            node-from a_mset y.0 x.0 w x.1 y.2,
          )

-- ---- functions

module _ (ks : List Attribute) (d c : Domain) (agree : Agree (member d) (member d)) (also : Agree (member c) (member c))
    (m : Matched (member d) (member (domain_with_positions d))) (n : Matched (member c) (member (domain_with_positions c))) where
  entries : Matched (is_entry d c) (is_entry (domain_with_positions d) (domain_with_positions c))
  entries = record { up = up; back = back }
    where
      up : (v : Value) → is_entry d c v ≡ true → is_entry (domain_with_positions d) (domain_with_positions c) (with_positions v) ≡ true
      up v h =
          let x = pair-parts (member d) (member c) v h in
          ap (λ u. is_entry (domain_with_positions d) (domain_with_positions c) (with_positions u)) x.2
          ∙ and-both (member (domain_with_positions d) (with_positions x.0)) (member (domain_with_positions c) (with_positions x.1))
          (m.up x.0 x.3) (n.up x.1 x.4)

      back : (w : Value) → is_entry (domain_with_positions d) (domain_with_positions c) w ≡ true → Back (is_entry d c) w
      back w h =
          let x = pair-parts (member (domain_with_positions d)) (member (domain_with_positions c)) w h in
          let y = m.back x.0 x.3 in
          let z = n.back x.1 x.4 in
          (pair y.0 z.0, and-both (member d y.0) (member c z.0) y.1 z.1, ap (λ a. pair a (with_positions z.0)) y.2 ∙ ap (pair x.0) z.2 ∙ sym x.2)

  -- the arguments and the values
  arguments : (ps : List Value) → list_all (is_entry d c) ps ≡ true → list_all (λ v. member d (from_of v)) ps ≡ true
  arguments ps h =
      all-so (is_entry d c) (λ v. member d (from_of v))
      (λ v k. and-right (is_pair v) (member d (from_of v)) (and-left (is_pair v && member d (from_of v)) (member c (to_of v)) k)) ps h

  values : (ps : List Value) → list_all (is_entry d c) ps ≡ true → list_all (λ v. member c (to_of v)) ps ≡ true
  values ps h =
      all-so (is_entry d c) (λ v. member c (to_of v)) (λ v k. and-right (is_pair v && member d (from_of v)) (member c (to_of v)) k) ps h

  -- The attributes ask the same of both.
  pub attributes : (ps : List Value) → list_all (is_entry d c) ps ≡ true →
      function_attributes_hold ks (domain_with_positions d) (domain_with_positions c) (with_each ps) ≡ function_attributes_hold ks d c ps
  attributes ps h =
      each-same ks (λ k z. size_holds k z (length (with_each ps))) (λ k z. size_holds k z (length ps))
      (λ k. function_holds k (members (domain_with_positions d)) (members (domain_with_positions c)) (with_each ps))
      (λ k. function_holds k (members d) (members c) ps)
      (λ k z. ap (size_holds k z) (length-with ps))
      (λ k. ap (λ o. function_holds k o (members (domain_with_positions c)) (with_each ps)) (members-with d) ∙ ap (λ o. function_holds k (option_map with_each (members d)) o (with_each ps)) (members-with c)
      ∙ function-same (member d) (member c) agree also (members d) (members c) (listed-inside d) (listed-inside c) k ps (arguments ps h)
      (values ps h))

  -- Members of functions.
  pub functions-matched : Matched (member (functions ks d c)) (member (functions ks (domain_with_positions d) (domain_with_positions c)))
  functions-matched = record { up = up; back = back }
    where
      up : (v : Value) → member (functions ks d c) v ≡ true →
          member (functions ks (domain_with_positions d) (domain_with_positions c)) (with_positions v) ≡ true
      up v h =
          let x = function-member ks d c v h in
          ap (member (functions ks (domain_with_positions d) (domain_with_positions c))) (node-with a_function x.0 v x.1)
          ∙ function-made ks (domain_with_positions d) (domain_with_positions c) (with_each x.0)
          (record {
            rise = rises-with (member d) agree from_of from-with x.0 (arguments x.0 x.2.pairs) ∙ x.2.rise;
            pairs = all-there (is_entry d c) (is_entry (domain_with_positions d) (domain_with_positions c))
                (λ u k. let e = entries in e.up u k) x.0 x.2.pairs;
            attributes = attributes x.0 x.2.pairs ∙ x.2.attributes;
          })

      back : (w : Value) → member (functions ks (domain_with_positions d) (domain_with_positions c)) w ≡ true →
          Back (member (functions ks d c)) w
      back w h =
          let x = function-member ks (domain_with_positions d) (domain_with_positions c) w h in
          let y = list-back (is_entry d c) (is_entry (domain_with_positions d) (domain_with_positions c)) entries x.0 x.2.pairs in (
            node a_function (of_list y.0),
            function-made ks d c y.0
                (record {
                  rise = sym (rises-with (member d) agree from_of from-with y.0 (arguments y.0 y.1)) ∙ ap (rises from_of) y.2 ∙ x.2.rise;
                  pairs = y.1;
                  attributes = sym (attributes y.0 y.1)
                      ∙ ap (function_attributes_hold ks (domain_with_positions d) (domain_with_positions c)) y.2 ∙ x.2.attributes;
                }),
            node-from a_function y.0 x.0 w x.1 y.2,
          )
