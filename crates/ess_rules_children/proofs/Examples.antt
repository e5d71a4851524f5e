-- Worked examples: what operators on values that are kept as another value ask, and terms at one component or field.
use Rattle.std.proofs.Common.{◌≡◌, refl, false, [], ◌∷◌, Some, None}
use Rattle.ess_semantics.specs.declared.words.Fun.{Fun}
use Rattle.ess_semantics.specs.declared.words.ReprKind.{ReprKind}
use Rattle.ess_semantics.specs.Trees.{to_component, repr, no_reprs, more_reprs, index, Ex, name_ex, node_ex, seen_ex, fun1, no_exs, more_exs, bool_dom, tuple_dom, record_dom, relation_dom, no_doms, more_doms}
use Rattle.ess_repr_laws.specs.StructureParts.{tuple_set_dom}
use Rattle.ess_rules_children.specs.Kept.{kept_dom, behind_relation, behind_parts}
use Rattle.ess_rules_children.specs.Stepped.{stepped, numbered, named}

-- A relation of truth values is kept as a set of tuples; that isn't a kind for sets, nor for bool.
as_a_set : kept_dom ReprKind.RelationAsSet (relation_dom [] no_exs (more_doms bool_dom no_doms))
    ≡ Some (tuple_set_dom [] no_exs (more_doms bool_dom no_doms))
as_a_set = refl

not_of_bool : kept_dom ReprKind.RelationAsSet bool_dom ≡ None
not_of_bool = refl

not_so_kept : kept_dom ReprKind.RelationAsMatrix (relation_dom [] no_exs (more_doms bool_dom no_doms)) ≡ None
not_so_kept = refl

-- `toRelation(f)` asks f, `parts(f)` asks `parts(f)` where relations are asked.
behind_it : behind_relation (fun1 false Fun.ToRelation (name_ex (102 ∷ []))) ≡ name_ex (102 ∷ [])
behind_it = refl

itself : behind_relation (fun1 false Fun.Parts (name_ex (102 ∷ []))) ≡ fun1 false Fun.Parts (name_ex (102 ∷ []))
itself = refl

behind_the_parts : behind_parts (fun1 false Fun.Parts (name_ex (112 ∷ []))) ≡ name_ex (112 ∷ [])
behind_the_parts = refl

-- `t[2]` has one step, `t[1, 2]` has two.
one_step : stepped (node_ex false (index (to_component 2 ∷ [])) (more_exs (name_ex (116 ∷ [])) no_exs))
    ≡ Some (name_ex (116 ∷ []), to_component 2)
one_step = refl

two_steps : stepped (node_ex false (index (to_component 1 ∷ to_component 2 ∷ [])) (more_exs (name_ex (116 ∷ [])) no_exs)) ≡ None
two_steps = refl

-- A view of pairs of truth values: the second component has the second table, and there is no third.
abbrev pairs : Ex
pairs =
    seen_ex (repr ReprKind.Tuple (more_reprs (repr ReprKind.Atom no_reprs) (more_reprs (repr ReprKind.Atom no_reprs) no_reprs)))
    (tuple_dom (more_doms bool_dom (more_doms bool_dom no_doms))) ((97 ∷ []) ∷ (98 ∷ []) ∷ []) no_exs

second : numbered 2 pairs ≡ Some (seen_ex (repr ReprKind.Atom no_reprs) bool_dom ((98 ∷ []) ∷ []) no_exs)
second = refl

no_third : numbered 3 pairs ≡ None
no_third = refl

no_field : named (97 ∷ []) pairs ≡ None
no_field = refl

-- A view of records with the fields a and b.
abbrev records : Ex
records =
    seen_ex (repr ReprKind.Rec (more_reprs (repr ReprKind.Atom no_reprs) (more_reprs (repr ReprKind.Atom no_reprs) no_reprs)))
    (record_dom ((97 ∷ []) ∷ (98 ∷ []) ∷ []) (more_doms bool_dom (more_doms bool_dom no_doms))) ((120 ∷ []) ∷ (121 ∷ []) ∷ []) no_exs

of_b : named (98 ∷ []) records ≡ Some (seen_ex (repr ReprKind.Atom no_reprs) bool_dom ((121 ∷ []) ∷ []) no_exs)
of_b = refl

of_none : named (99 ∷ []) records ≡ None
of_none = refl
