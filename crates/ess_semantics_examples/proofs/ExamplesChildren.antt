-- Worked examples of children: a set's member, a relation kept as a set, a function kept as a relation, and a partition kept
-- as a set of sets.
use Rattle.std.proofs.Common.{◌≡◌, refl, ap, [], ◌∷◌, Some}
use Rattle.ess_semantics.specs.declared.words.Key.{Key}
use Rattle.ess_semantics.specs.declared.words.ReprKind.{ReprKind}
use Rattle.ess_semantics.specs.Trees.{valued, no_exs, bool_dom, tuple_dom, set_dom, function_dom, relation_dom, partition_dom}
use Rattle.ess_semantics.specs.Domains.{Domain}
use Rattle.ess_semantics.specs.Layers.{Layer}
use Rattle.ess_semantics.specs.Representations.{layer}
use Rattle.ess_semantics.specs.Children.{ChildrenAre}
use Rattle.ess_semantics.proofs.Shorthands.{n, es1, es2, ds2, upto, set}

-- the children of a layer that is known
of-layer : (l l' : Layer) → Some l ≡ Some l' → l.children ≡ l'.children
of-layer l l' e = let q : l ≡ l' = cc in ap (λ x. x.children) q

-- the layer of a domain that is known
at-known : (k : ReprKind) (e e' : Domain) (l l' : Layer) → Some e ≡ Some e' → layer k e ≡ Some l → layer k e' ≡ Some l' → l.children ≡ l'.children
at-known k e e' l l' p q r = let f : e ≡ e' = cc in of-layer l l' (let g : layer k e ≡ layer k e' = ap (layer k) f in cc)

-- set of int(1..3) with a marker: int(1..3)
of_set : ChildrenAre ReprKind.ExplicitVarSizeWithMarker (set (upto 3)) (upto 3 ∷ [])
of_set = record { forms = refl; denote = λ env e l p q h. ap Some (at-known ReprKind.ExplicitVarSizeWithMarker _ e _ l p refl q) }

-- relation (size 2) of (int(1..2) * int(1..3)) as a set: set (size 2) of (int(1..2), int(1..3))
of_relation : ChildrenAre ReprKind.RelationAsSet (relation_dom (valued Key.Size ∷ []) (es1 (n 2)) (ds2 (upto 2) (upto 3)))
    (set_dom (valued Key.Size ∷ []) (es1 (n 2)) (tuple_dom (ds2 (upto 2) (upto 3))) ∷ [])
of_relation = record { forms = refl; denote = λ env e l p q h. ap Some (at-known ReprKind.RelationAsSet _ e _ l p refl q) }

-- function int(1..3) --> bool as a relation: relation (maxSize 3) of (int(1..3) * bool)
of_function : ChildrenAre ReprKind.FunctionAsRelation (function_dom [] no_exs (upto 3) bool_dom)
    (relation_dom (valued Key.MaxSize ∷ []) (es1 (n 3)) (ds2 (upto 3) bool_dom) ∷ [])
of_function = record { forms = refl; denote = λ env e l p q h. ap Some (at-known ReprKind.FunctionAsRelation _ e _ l p refl q) }

-- partition (maxNumParts 2, partSize 1) from int(1..2) as a set: set (maxSize 2) of set (size 1) of int(1..2)
of_partition : ChildrenAre ReprKind.PartitionAsSet (partition_dom (valued Key.MaxNumParts ∷ valued Key.PartSize ∷ []) (es2 (n 2) (n 1)) (upto 2))
    (set_dom (valued Key.MaxSize ∷ []) (es1 (n 2)) (set_dom (valued Key.Size ∷ []) (es1 (n 1)) (upto 2)) ∷ [])
of_partition = record { forms = refl; denote = λ env e l p q h. ap Some (at-known ReprKind.PartitionAsSet _ e _ l p refl q) }
