-- Worked examples: the first index domain of a view of a matrix, the item over it, parts.
use Rattle.std.proofs.Common.{◌≡◌, refl, false, [], ◌∷◌, pos, Some, None}
use Rattle.ess_semantics.specs.declared.words.Fun.{Fun}
use Rattle.ess_semantics.specs.declared.words.ReprKind.{ReprKind}
use Rattle.ess_semantics.specs.Trees.{word, repr, no_reprs, more_reprs, name_pat, Ex, number_ex, name_ex, node_ex, seen_ex, no_exs, more_exs, no_gens, over, bool_dom, name_dom, matrix_dom, more_doms, no_doms, fun1}
use Rattle.ess_rules_offers.specs.Axes.{first_axis, listed_over}
use Rattle.ess_rules_offers.specs.Parties.{a_party}
use Rattle.ess_rules_offers.specs.Listed.{members_listed}

-- m : matrix indexed by [a, b] of bool.
abbrev table : Ex
table = seen_ex (repr ReprKind.Matrix (more_reprs (repr ReprKind.Atom no_reprs) no_reprs))
    (matrix_dom (more_doms (name_dom (97 ∷ [])) (more_doms (name_dom (98 ∷ [])) no_doms)) bool_dom) ((109 ∷ []) ∷ []) no_exs

-- Its first index domain is a; a name has none.
first_of_two : first_axis table ≡ Some (name_dom (97 ∷ []))
first_of_two = refl

of_a_name : first_axis (name_ex (109 ∷ [])) ≡ None
of_a_name = refl

-- Over that domain its items are rows.
rows : listed_over (120 ∷ []) (name_dom (97 ∷ [])) table ≡ Some (record {
  gens = over (name_pat (120 ∷ [])) (name_dom (97 ∷ [])) no_gens;
  item = seen_ex (repr ReprKind.Matrix (more_reprs (repr ReprKind.Atom no_reprs) no_reprs))
      (matrix_dom (more_doms (name_dom (98 ∷ [])) no_doms) bool_dom) ((109 ∷ []) ∷ []) (more_exs (name_ex (120 ∷ [])) no_exs);
})
rows = refl

-- `party(1, p)` is of 1 and p; `toSet` of a name lists nothing.
a_part : a_party (node_ex false (word Fun.Party) (more_exs (number_ex (pos 1)) (more_exs (name_ex (112 ∷ [])) no_exs)))
    ≡ Some (number_ex (pos 1), name_ex (112 ∷ []))
a_part = refl

of_no_view : members_listed (120 ∷ []) (fun1 false Fun.ToSet (name_ex (109 ∷ []))) ≡ None
of_no_view = refl
