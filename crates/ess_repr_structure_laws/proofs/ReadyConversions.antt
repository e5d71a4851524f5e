-- Relations, functions and partitions are ready that are kept as a matrix, as a set, as a relation or by part numbers.
use Rattle.std.proofs.Common.{◌≡◌, refl, ap, ℕ, ◌<◌, Bool, true, false, ◌&&◌, if◌then◌else◌, List, [], ◌∷◌, pos, int_le, Option, Some, None, option_map, arith}
use Rattle.std.proofs.lemmas.Bool.{le-leb}
use Rattle.ess_semantics.specs.declared.words.ReprKind.{ReprKind}
use Rattle.ess_semantics.specs.declared.words.Key.{Key}
use Rattle.ess_semantics.specs.Lists.{and_then, each_of, or_else}
use Rattle.ess_semantics.specs.Values.{Text}
use Rattle.ess_semantics.specs.Order.{same_text}
use Rattle.ess_semantics.specs.Kinds.{fits}
use Rattle.ess_semantics.specs.Membership.{no_negative_attribute, each_layer_of_all}
use Rattle.ess_semantics.specs.Sizes.{bound, size_attributes, pair_sizes, child_relation, child_set, child_parts}
use Rattle.ess_semantics.specs.Trees.{Mark, Repr, repr, no_reprs, more_reprs, Exs, Dom, Doms, no_doms, more_doms, function_dom, relation_dom, partition_dom}
use Rattle.ess_semantics.specs.Domains.{Attribute, Domain, Domains, functions, relations, partitions, no_domains, more_domains, attribute, has}
use Rattle.ess_semantics.specs.Meaning.{Env, domain_of, domains_of}
use Rattle.ess_semantics.proofs.Tests.{and-left, and-right, and-both}
use Rattle.ess_repr_laws.specs.RelationParts.{bare_relation_dom}
use Rattle.ess_repr_laws.specs.StructureParts.{tuple_set_dom}
use Rattle.ess_repr_laws.specs.ViewParts.{pair_relation_dom, part_set_dom}
use Rattle.ess_repr_laws.specs.StructureMeaning.{Attributes, DomainIs, PairKeyReady, PairRelationKeyReady, RelationKeyReady}
use Rattle.ess_repr_laws.specs.StructureReady.{Ready}
use Rattle.ess_repr_laws.proofs.Enumerables.{IsEnumerated}
use Rattle.ess_repr_laws.proofs.StructureConversions.{each-flag}
use Rattle.ess_repr_declare_laws.specs.SizeTerms.{size_terms}
use Rattle.ess_repr_declare_laws.proofs.ChildDomainsDenoted.{pairs-are-denoted, tuples-are-denoted, parts-are-denoted}
use Rattle.ess_repr_declare_laws.proofs.SizeNumbers.{not_below}
use Rattle.ess_repr_structure_laws.proofs.FittingChildren.{ChildrenFit, children-fit, set-numbers, pair-numbers, part-numbers}
use Rattle.ess_repr_structure_laws.proofs.NeatDomains.{FunctionFlag, PairFlag, RelationFlag, flags-there, relation-neat, set-neat, parts-neat}
use Rattle.ess_repr_structure_laws.proofs.ReadyFunctions.{from-is, to-is, function-attributes}
use Rattle.ess_repr_structure_laws.proofs.ReadyParts.{Names, N, Known, listed-is, are-atoms, flags-both, bool-is, axis-are, axes-are, values-listed}
use Rattle.ess_repr_structure_laws.proofs.Shapes.{relation-parts, partition-parts, first-of}
use Rattle.ess_repr_structure_laws.proofs.ToldSizes.{are-sizes, are-pair-sizes, are-part-sizes}

-- Sizes that are made of numbers aren't below 0.
sizes-plain : (s a b : Option ℕ) → not_below (size_attributes s a b) ≡ true
sizes-plain s a b = go s (go' a (go'' b))
  where
    low : (n : ℕ) → int_le (pos 0) (pos n) ≡ true
    low n = le-leb 0 n (omega arith)

    go'' : (b : Option ℕ) → not_below (size_attributes None None b) ≡ true
    go'' None = refl
    go'' (Some n) = and-both (int_le (pos 0) (pos n)) true (low n) refl

    go' : (a : Option ℕ) → not_below (size_attributes None None b) ≡ true → not_below (size_attributes None a b) ≡ true
    go' None h = h
    go' (Some n) h = and-both (int_le (pos 0) (pos n)) (not_below (size_attributes None None b)) (low n) h

    go : (s : Option ℕ) → not_below (size_attributes None a b) ≡ true → not_below (size_attributes s a b) ≡ true
    go None h = h
    go (Some n) h = and-both (int_le (pos 0) (pos n)) (not_below (size_attributes None a b)) (low n) h

pairs-plain : (ks : List Attribute) (x : Domain) → not_below (pair_sizes ks x) ≡ true
pairs-plain ks x = go (has Key.Total ks) (if has Key.Size ks then attribute Key.MaxSize ks else or_else (attribute Key.MaxSize ks)
    (Some (bound x)))
  where
    go : (b : Bool) (o : Option ℕ) → not_below (if b then size_attributes (Some (bound x)) (attribute Key.MinSize ks)
        (attribute Key.MaxSize ks)
        else size_attributes (attribute Key.Size ks) (attribute Key.MinSize ks) o) ≡ true
    go true o = sizes-plain (Some (bound x)) (attribute Key.MinSize ks) (attribute Key.MaxSize ks)
    go false o = sizes-plain (attribute Key.Size ks) (attribute Key.MinSize ks) o

-- What an only child denotes.
only-of : (d : Dom) (env : Env) (x : Domain) → each_of (d ∷ []) (λ c. domain_of c env) ≡ Some (x ∷ []) → domain_of d env ≡ Some x
only-of d env x h = go (domain_of d env) h
  where
    go : (o : Option Domain) → and_then o (λ y. Some (y ∷ [])) ≡ Some (x ∷ []) → o ≡ Some x
    go None h = cc
    go (Some y) h = let q : y ≡ x = cc in ap Some q

none-behind : (o : Option Domain) (p : Option Domains) → and_then o (λ x. option_map (more_domains x) p) ≡ Some no_domains → ⊥
none-behind None p h = cc
none-behind (Some x) None h = cc
none-behind (Some x) (Some xs) h = cc

module _ (env0 : Env) (q : ℕ → Text) (q-apart : (m l : ℕ) → l < m → same_text (q m) (q l) ≡ false) where
  abbrev E : Names env0 q q-apart → Env
  E = N env0 q q-apart

  -- ---- relations

  -- What an attribute without a number asks of a relation between two, whose view's domain is v.
  pair-key-ready : (ds : Doms) (xs : Domains) → ((bs : Names env0 q q-apart) → domains_of ds (E bs) ≡ Some xs) → (v : Dom) (w : Domain) →
      DomainIs env0 q q-apart v w →
      (k : Key) → RelationFlag xs k → RelationKeyReady env0 q q-apart ds xs v w k
  pair-key-ready (more_doms d (more_doms c no_doms)) (more_domains x (more_domains y no_domains)) m v w vm k f =
      ((bool-is d (E []) x (dm []), bool-is c (E []) y (cm [])), vm, one k f)
    where
      dm : DomainIs env0 q q-apart d x
      dm bs = let p = first-of d (more_doms c no_doms) (E bs) x (more_domains y no_domains) (m bs) in p.0

      cm : DomainIs env0 q q-apart c y
      cm bs =
          let p = first-of d (more_doms c no_doms) (E bs) x (more_domains y no_domains) (m bs) in
          let r = first-of c no_doms (E bs) y no_domains p.1 in r.0

      one : (k : Key) → PairFlag x y k → PairRelationKeyReady env0 q q-apart d x k
      one Key.Reflexive f = values-listed env0 q q-apart d x dm f
      one _ f = tt
  pair-key-ready no_doms (more_domains x (more_domains y no_domains)) m v w vm k f = let z = m [] in cc
  pair-key-ready (more_doms d no_doms) (more_domains x (more_domains y no_domains)) m v w vm k f =
      let p = first-of d no_doms (E []) x (more_domains y no_domains) (m []) in let z = p.1 in cc
  pair-key-ready (more_doms d (more_doms c (more_doms b ds))) (more_domains x (more_domains y no_domains)) m v w vm k f =
      let p = first-of d (more_doms c (more_doms b ds)) (E []) x (more_domains y no_domains) (m []) in
      let r = first-of c (more_doms b ds) (E []) y no_domains p.1 in
      absurd (none-behind (domain_of b (E [])) (domains_of ds (E [])) r.1)
  pair-key-ready ds no_domains m v w vm k f = absurd f
  pair-key-ready ds (more_domains x no_domains) m v w vm k f = absurd f
  pair-key-ready ds (more_domains x (more_domains y (more_domains z xs))) m v w vm k f = absurd f

  module _ (r : Repr) (ms : List Mark) (es : Exs) (ds : Doms) (ks : List Attribute) (xs : Domains)
      (i : Known env0 q q-apart r (relation_dom ms es ds) (relations ks xs)) where
    components : (bs : Names env0 q q-apart) → domains_of ds (E bs) ≡ Some xs
    components bs = let p = relation-parts ms es ds (E bs) ks xs (i.means bs) in p.1

    relation-attributes : Attributes env0 q q-apart size_terms ms es ks
    relation-attributes bs = let n = i.numbers bs in let p = relation-parts ms es ds (E bs) ks xs (i.means bs) in (n.0, p.0)

  -- A relation as a matrix.
  pub matrix-ready : (ms : List Mark) (es : Exs) (ds : Doms) (ks : List Attribute) (xs : Domains) →
      Known env0 q q-apart (repr ReprKind.RelationAsMatrix no_reprs) (relation_dom ms es ds) (relations ks xs) →
      Ready env0 q q-apart size_terms (repr ReprKind.RelationAsMatrix no_reprs) (relation_dom ms es ds) (relations ks xs)
  matrix-ready ms es ds ks xs i = (
    are-atoms xs i.room,
    each-flag (RelationFlag xs) (RelationKeyReady env0 q q-apart ds xs (bare_relation_dom ds) (relations [] xs)) ks one i.neat.1,
    axes-are env0 q q-apart ds xs m i.room,
    relation-attributes (repr ReprKind.RelationAsMatrix no_reprs) ms es ds ks xs i,
  )
    where
      m : (bs : Names env0 q q-apart) → domains_of ds (E bs) ≡ Some xs
      m = components (repr ReprKind.RelationAsMatrix no_reprs) ms es ds ks xs i

      one : (k : Key) → RelationFlag xs k → RelationKeyReady env0 q q-apart ds xs (bare_relation_dom ds) (relations [] xs) k
      one k f = pair-key-ready ds xs m (bare_relation_dom ds) (relations [] xs) (λ bs. ap (option_map (relations [])) (m bs)) k f

  -- What is known of the set of a relation's tuples.
  pub tuples-known : (r : Repr) (ms : List Mark) (es : Exs) (ds : Doms) (ks : List Attribute) (xs : Domains) →
      Known env0 q q-apart (repr ReprKind.RelationAsSet (more_reprs r no_reprs)) (relation_dom ms es ds) (relations ks xs) →
      Known env0 q q-apart r (tuple_set_dom ms es ds) (child_set ks xs)
  tuples-known r ms es ds ks xs i =
      let f : ChildrenFit ReprKind.RelationAsSet (more_reprs r no_reprs) (relation_dom ms es ds) = children-fit ReprKind.RelationAsSet
      (more_reprs r no_reprs) (relation_dom ms es ds) i.sound i.fit in
      record {
        sound = f.sound.0;
        fit = and-left (fits r (tuple_set_dom ms es ds)) true f.fit;
        room = i.room;
        neat = set-neat ks xs i.neat.2;
        plain = and-both (not_below (size_attributes (attribute Key.Size ks) (attribute Key.MinSize ks) (attribute Key.MaxSize ks)))
            (each_layer_of_all not_below xs)
            (sizes-plain (attribute Key.Size ks) (attribute Key.MinSize ks) (attribute Key.MaxSize ks))
            (and-right (not_below ks) (each_layer_of_all not_below xs) i.plain);
        means = λ bs. only-of (tuple_set_dom ms es ds) (E bs) (child_set ks xs)
            (tuples-are-denoted ms es ds (E bs) (relations ks xs) _ (i.means bs) refl i.plain);
        numbers = λ bs. let n = i.numbers bs in set-numbers (E bs) ms es ds n.0 n.1;
      }

  -- A relation as the set of its tuples.
  pub tuples-ready : (r : Repr) (ms : List Mark) (es : Exs) (ds : Doms) (ks : List Attribute) (xs : Domains) →
      Known env0 q q-apart (repr ReprKind.RelationAsSet (more_reprs r no_reprs)) (relation_dom ms es ds) (relations ks xs) →
      Ready env0 q q-apart size_terms r (tuple_set_dom ms es ds) (child_set ks xs) →
      Ready env0 q q-apart size_terms (repr ReprKind.RelationAsSet (more_reprs r no_reprs)) (relation_dom ms es ds) (relations ks xs)
  tuples-ready r ms es ds ks xs i child =
      let k = repr ReprKind.RelationAsSet (more_reprs r no_reprs) in
      let c : Known env0 q q-apart r (tuple_set_dom ms es ds) (child_set ks xs) = tuples-known r ms es ds ks xs i in (
        (
          are-sizes ks i.neat.0,
          each-flag (RelationFlag xs) (RelationKeyReady env0 q q-apart ds xs (tuple_set_dom ms es ds) (child_set ks xs)) ks
              (pair-key-ready ds xs (components k ms es ds ks xs i) (tuple_set_dom ms es ds) (child_set ks xs) c.means) i.neat.1,
        ),
        relation-attributes k ms es ds ks xs i,
        child,
      )

  -- ---- functions as relations

  -- What is known of the relation of a function's pairs.
  pub pairs-known : (r : Repr) (ms : List Mark) (es : Exs) (d c : Dom) (ks : List Attribute) (x y : Domain) →
      Known env0 q q-apart (repr ReprKind.FunctionAsRelation (more_reprs r no_reprs)) (function_dom ms es d c) (functions ks x y) →
      Known env0 q q-apart r (pair_relation_dom size_terms ms es d c) (child_relation ks x y)
  pairs-known r ms es d c ks x y i =
      let f : ChildrenFit ReprKind.FunctionAsRelation (more_reprs r no_reprs) (function_dom ms es d c) = children-fit
      ReprKind.FunctionAsRelation (more_reprs r no_reprs) (function_dom ms es d c) i.sound i.fit in
      let p = and-left (not_below ks && no_negative_attribute x) (no_negative_attribute y) i.plain in
      record {
        sound = f.sound.0;
        fit = and-left (fits r (pair_relation_dom size_terms ms es d c)) true f.fit;
        room = i.room.1;
        neat = relation-neat ks x y i.neat.2 i.neat.3;
        plain = and-both (not_below (pair_sizes ks x)) (no_negative_attribute x && (no_negative_attribute y && true)) (pairs-plain ks x)
            (and-both (no_negative_attribute x) (no_negative_attribute y && true) (and-right (not_below ks) (no_negative_attribute x) p)
            (and-both (no_negative_attribute y) true (and-right (not_below ks && no_negative_attribute x) (no_negative_attribute y) i.plain)
            refl));
        means = λ bs. only-of (pair_relation_dom size_terms ms es d c) (E bs) (child_relation ks x y)
            (pairs-are-denoted ms es d c (record { right = i.sound.0; full = i.sound.1 }) (E bs) (functions ks x y) _ (i.means bs) refl
            i.plain);
        numbers = λ bs. let n = i.numbers bs in pair-numbers (E bs) ms es d c n.0 n.1 n.2;
      }

  -- A function as the relation of its pairs.
  pub pairs-ready : (r : Repr) (ms : List Mark) (es : Exs) (d c : Dom) (ks : List Attribute) (x y : Domain) →
      Known env0 q q-apart (repr ReprKind.FunctionAsRelation (more_reprs r no_reprs)) (function_dom ms es d c) (functions ks x y) →
      Ready env0 q q-apart size_terms r (pair_relation_dom size_terms ms es d c) (child_relation ks x y) →
      Ready env0 q q-apart size_terms (repr ReprKind.FunctionAsRelation (more_reprs r no_reprs)) (function_dom ms es d c)
      (functions ks x y)
  pairs-ready r ms es d c ks x y i child =
      let b : Known env0 q q-apart r (pair_relation_dom size_terms ms es d c) (child_relation ks x y) = pairs-known r ms es d c ks x y i in (
        (bool-is d (E []) x (dm []), bool-is c (E []) y (cm [])),
        (
          are-pair-sizes ks x i.neat.0,
          flags-both (λ k. has k ks ≡ true) (FunctionFlag x y) (PairKeyReady env0 q q-apart c ks x y) ks one
              (flags-there ks) i.neat.1,
        ),
        function-attributes env0 q q-apart k ms es d c ks x y i,
        b.means,
        child,
      )
    where
      k : Repr
      k = repr ReprKind.FunctionAsRelation (more_reprs r no_reprs)

      dm : DomainIs env0 q q-apart d x
      dm = from-is env0 q q-apart k ms es d c ks x y i

      cm : DomainIs env0 q q-apart c y
      cm = to-is env0 q q-apart k ms es d c ks x y i

      one : (k : Key) → has k ks ≡ true → FunctionFlag x y k → PairKeyReady env0 q q-apart c ks x y k
      one Key.Total h f = (h, listed-is x f.there, f.enumerated)
      one Key.Surjective h f = values-listed env0 q q-apart c y cm f
      one Key.Bijective h f = values-listed env0 q q-apart c y cm f
      one _ h f = tt

  -- ---- partitions

  module _ (r : Repr) (ms : List Mark) (es : Exs) (d : Dom) (ks : List Attribute) (x : Domain)
      (i : Known env0 q q-apart r (partition_dom ms es d) (partitions ks x)) where
    inside : DomainIs env0 q q-apart d x
    inside bs = let p = partition-parts ms es d (E bs) ks x (i.means bs) in p.1

    partition-attributes : Attributes env0 q q-apart size_terms ms es ks
    partition-attributes bs = let n = i.numbers bs in let p = partition-parts ms es d (E bs) ks x (i.means bs) in (n.0, p.0)

  -- A partition by part numbers.
  pub numbers-ready : (ms : List Mark) (es : Exs) (d : Dom) (ks : List Attribute) (x : Domain) →
      Known env0 q q-apart (repr ReprKind.PartitionOccurrence no_reprs) (partition_dom ms es d) (partitions ks x) →
      Ready env0 q q-apart size_terms (repr ReprKind.PartitionOccurrence no_reprs) (partition_dom ms es d) (partitions ks x)
  numbers-ready ms es d ks x i =
      let k = repr ReprKind.PartitionOccurrence no_reprs in
      let l = listed-is x i.room.0.1 in
      let m = inside k ms es d ks x i in (
        (i.room.0.0, l),
        axis-are env0 q q-apart d x m l,
        (λ bs. ap (option_map (partitions [])) (m bs)),
        partition-attributes k ms es d ks x
            i,
      )

  -- What is known of the set of a partition's parts.
  pub parts-known : (r : Repr) (ms : List Mark) (es : Exs) (d : Dom) (ks : List Attribute) (x : Domain) →
      Known env0 q q-apart (repr ReprKind.PartitionAsSet (more_reprs r no_reprs)) (partition_dom ms es d) (partitions ks x) →
      Known env0 q q-apart r (part_set_dom size_terms ms es d) (child_parts ks x)
  parts-known r ms es d ks x i =
      let f : ChildrenFit ReprKind.PartitionAsSet (more_reprs r no_reprs) (partition_dom ms es d) = children-fit ReprKind.PartitionAsSet
      (more_reprs r no_reprs) (partition_dom ms es d) i.sound i.fit in
      let greatest = if has Key.NumParts ks then attribute Key.MaxNumParts ks else or_else (attribute Key.MaxNumParts ks) (Some (bound x))
      in
      record {
        sound = f.sound.0;
        fit = and-left (fits r (part_set_dom size_terms ms es d)) true f.fit;
        room = i.room.1;
        neat = parts-neat ks x i.neat.2;
        plain = and-both (not_below (size_attributes (attribute Key.NumParts ks) (attribute Key.MinNumParts ks) greatest))
            (not_below (size_attributes (attribute Key.PartSize ks) (attribute Key.MinPartSize ks) (attribute Key.MaxPartSize ks)) &&
            no_negative_attribute x)
            (sizes-plain (attribute Key.NumParts ks) (attribute Key.MinNumParts ks) greatest)
            (and-both (not_below (size_attributes (attribute Key.PartSize ks) (attribute Key.MinPartSize ks)
            (attribute Key.MaxPartSize ks))) (no_negative_attribute x)
            (sizes-plain (attribute Key.PartSize ks) (attribute Key.MinPartSize ks) (attribute Key.MaxPartSize ks))
            (and-right (not_below ks) (no_negative_attribute x) i.plain));
        means = λ bs. only-of (part_set_dom size_terms ms es d) (E bs) (child_parts ks x)
            (parts-are-denoted ms es d (record { right = i.sound.0; full = i.sound.1 }) (E bs) (partitions ks x) _ (i.means bs) refl
            i.plain);
        numbers = λ bs. let n = i.numbers bs in part-numbers (E bs) ms es d n.0 n.1;
      }

  -- A partition as the set of its parts.
  pub parts-ready : (r : Repr) (ms : List Mark) (es : Exs) (d : Dom) (ks : List Attribute) (x : Domain) →
      Known env0 q q-apart (repr ReprKind.PartitionAsSet (more_reprs r no_reprs)) (partition_dom ms es d) (partitions ks x) →
      Ready env0 q q-apart size_terms r (part_set_dom size_terms ms es d) (child_parts ks x) →
      Ready env0 q q-apart size_terms (repr ReprKind.PartitionAsSet (more_reprs r no_reprs)) (partition_dom ms es d) (partitions ks x)
  parts-ready r ms es d ks x i child =
      let k = repr ReprKind.PartitionAsSet (more_reprs r no_reprs) in
      let e : IsEnumerated x = i.neat.1 in
      let l = listed-is x e.there in
      let n = e.enumerated in
      let b : Known env0 q q-apart r (part_set_dom size_terms ms es d) (child_parts ks x) = parts-known r ms es d ks x i in (
        (l, n.complete, axis-are env0 q q-apart d x (inside k ms es d ks x i) l),
        (are-part-sizes ks x i.neat.0, partition-attributes k ms es d ks x i),
        b.means,
        child,
      )
