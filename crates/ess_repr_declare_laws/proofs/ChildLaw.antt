-- The children of a kind are the right ones: their attributes have the right names, and they denote the domains of the layer's children.
use Rattle.std.proofs.Common.{◌≡◌, refl, ap, ◌∙◌, true, List, Some, option_map}
use Rattle.ess_semantics.specs.declared.words.ReprKind.{ReprKind}
use Rattle.ess_semantics.specs.Domains.{booleans, integers, tuples, records, matrices, sets, msets, functions, relations, partitions}
use Rattle.ess_semantics.specs.Kinds.{child_forms}
use Rattle.ess_semantics.specs.Trees.{Dom, bool_dom, int_dom, name_dom, tuple_dom, record_dom, matrix_dom, set_dom, mset_dom, function_dom, relation_dom, partition_dom}
use Rattle.ess_semantics.specs.Representations.{layer}
use Rattle.ess_semantics.specs.Meaning.{meanings, attributes_of, domain_of, domains_of}
use Rattle.ess_semantics.specs.Children.{ChildrenAre}
use Rattle.ess_repr_laws.specs.WellFormed.{Well}
use Rattle.ess_repr_declare_laws.specs.ChildDomains.{child_doms}
use Rattle.ess_repr_declare_laws.specs.Laws.{has_numbers}
use Rattle.ess_repr_declare_laws.proofs.SizeNumbers.{mapped, chained}
use Rattle.ess_repr_declare_laws.proofs.ChildNames.{formed}
use Rattle.ess_repr_declare_laws.proofs.ChildDomainsDenoted.{atom-children, at, only, several, nd-children, nd-partial-children, SetOf, set-of, FunctionOf, function-of, Denote, pairs-are-denoted, tuples-are-denoted, parts-are-denoted}

denoted : (k : ReprKind) (d : Dom) (ds : List Dom) → Well d → has_numbers d ≡ true → child_forms k d ≡ Some ds → Denote k d
denoted ReprKind.Atom bool_dom ds w n h env e l g q p = let z : booleans ≡ e = cc in ap Some (at ReprKind.Atom e booleans l _ z refl q)
denoted ReprKind.Atom (int_dom rs es) ds w n h env e l g q p = let m = mapped integers _ e g in ap Some (at ReprKind.Atom e (integers m.0) l _ m.2 refl q)
denoted ReprKind.Atom (name_dom a) ds w n h env e l g q p = atom-children a env e l g q
denoted ReprKind.Atom (tuple_dom ts) ds w n h env e l g q p = cc
denoted ReprKind.Atom (record_dom fs ts) ds w n h env e l g q p = cc
denoted ReprKind.Atom (matrix_dom is d) ds w n h env e l g q p = cc
denoted ReprKind.Atom (set_dom ms es d) ds w n h env e l g q p = cc
denoted ReprKind.Atom (mset_dom ms es d) ds w n h env e l g q p = cc
denoted ReprKind.Atom (function_dom ms es d c) ds w n h env e l g q p = cc
denoted ReprKind.Atom (relation_dom ms es ts) ds w n h env e l g q p = cc
denoted ReprKind.Atom (partition_dom ms es d) ds w n h env e l g q p = cc
denoted ReprKind.Tuple bool_dom ds w n h env e l g q p = cc
denoted ReprKind.Tuple (int_dom rs es) ds w n h env e l g q p = cc
denoted ReprKind.Tuple (name_dom a) ds w n h env e l g q p = cc
denoted ReprKind.Tuple (tuple_dom ts) ds w n h env e l g q p = let m = mapped tuples (domains_of ts env) e g in several ts env m.0 m.1 ∙ ap Some (at ReprKind.Tuple e (tuples m.0) l _ m.2 refl q)
denoted ReprKind.Tuple (record_dom fs ts) ds w n h env e l g q p = cc
denoted ReprKind.Tuple (matrix_dom is d) ds w n h env e l g q p = cc
denoted ReprKind.Tuple (set_dom ms es d) ds w n h env e l g q p = cc
denoted ReprKind.Tuple (mset_dom ms es d) ds w n h env e l g q p = cc
denoted ReprKind.Tuple (function_dom ms es d c) ds w n h env e l g q p = cc
denoted ReprKind.Tuple (relation_dom ms es ts) ds w n h env e l g q p = cc
denoted ReprKind.Tuple (partition_dom ms es d) ds w n h env e l g q p = cc
denoted ReprKind.Rec bool_dom ds w n h env e l g q p = cc
denoted ReprKind.Rec (int_dom rs es) ds w n h env e l g q p = cc
denoted ReprKind.Rec (name_dom a) ds w n h env e l g q p = cc
denoted ReprKind.Rec (tuple_dom ts) ds w n h env e l g q p = cc
denoted ReprKind.Rec (record_dom fs ts) ds w n h env e l g q p = let m = mapped (records fs) (domains_of ts env) e g in several ts env m.0 m.1 ∙ ap Some (at ReprKind.Rec e (records fs m.0) l _ m.2 refl q)
denoted ReprKind.Rec (matrix_dom is d) ds w n h env e l g q p = cc
denoted ReprKind.Rec (set_dom ms es d) ds w n h env e l g q p = cc
denoted ReprKind.Rec (mset_dom ms es d) ds w n h env e l g q p = cc
denoted ReprKind.Rec (function_dom ms es d c) ds w n h env e l g q p = cc
denoted ReprKind.Rec (relation_dom ms es ts) ds w n h env e l g q p = cc
denoted ReprKind.Rec (partition_dom ms es d) ds w n h env e l g q p = cc
denoted ReprKind.Matrix bool_dom ds w n h env e l g q p = cc
denoted ReprKind.Matrix (int_dom rs es) ds w n h env e l g q p = cc
denoted ReprKind.Matrix (name_dom a) ds w n h env e l g q p = cc
denoted ReprKind.Matrix (tuple_dom ts) ds w n h env e l g q p = cc
denoted ReprKind.Matrix (record_dom fs ts) ds w n h env e l g q p = cc
denoted ReprKind.Matrix (matrix_dom is d) ds w n h env e l g q p =
    let c = chained (domains_of is env) (λ js. option_map (matrices js) (domain_of d env)) e g in
    let m = mapped (matrices c.0) (domain_of d env) e c.2 in
    only d env m.0 m.1 ∙ ap Some (at ReprKind.Matrix e (matrices c.0 m.0) l _ m.2 refl q)
denoted ReprKind.Matrix (set_dom ms es d) ds w n h env e l g q p = cc
denoted ReprKind.Matrix (mset_dom ms es d) ds w n h env e l g q p = cc
denoted ReprKind.Matrix (function_dom ms es d c) ds w n h env e l g q p = cc
denoted ReprKind.Matrix (relation_dom ms es ts) ds w n h env e l g q p = cc
denoted ReprKind.Matrix (partition_dom ms es d) ds w n h env e l g q p = cc
denoted ReprKind.Occurrence bool_dom ds w n h env e l g q p = cc
denoted ReprKind.Occurrence (int_dom rs es) ds w n h env e l g q p = cc
denoted ReprKind.Occurrence (name_dom a) ds w n h env e l g q p = cc
denoted ReprKind.Occurrence (tuple_dom ts) ds w n h env e l g q p = cc
denoted ReprKind.Occurrence (record_dom fs ts) ds w n h env e l g q p = cc
denoted ReprKind.Occurrence (matrix_dom is d) ds w n h env e l g q p = cc
denoted ReprKind.Occurrence (set_dom ms es d) ds w n h env e l g q p =
    let s : SetOf sets ms es d env e = set-of sets ms es d env e g in
    ap Some (at ReprKind.Occurrence e (sets s.keys s.inner) l _ s.whole refl q)
denoted ReprKind.Occurrence (mset_dom ms es d) ds w n h env e l g q p = cc
denoted ReprKind.Occurrence (function_dom ms es d c) ds w n h env e l g q p = cc
denoted ReprKind.Occurrence (relation_dom ms es ts) ds w n h env e l g q p = cc
denoted ReprKind.Occurrence (partition_dom ms es d) ds w n h env e l g q p = cc
denoted ReprKind.Explicit bool_dom ds w n h env e l g q p = cc
denoted ReprKind.Explicit (int_dom rs es) ds w n h env e l g q p = cc
denoted ReprKind.Explicit (name_dom a) ds w n h env e l g q p = cc
denoted ReprKind.Explicit (tuple_dom ts) ds w n h env e l g q p = cc
denoted ReprKind.Explicit (record_dom fs ts) ds w n h env e l g q p = cc
denoted ReprKind.Explicit (matrix_dom is d) ds w n h env e l g q p = cc
denoted ReprKind.Explicit (set_dom ms es d) ds w n h env e l g q p =
    let s : SetOf sets ms es d env e = set-of sets ms es d env e g in
    only d env s.inner s.part ∙ ap Some (at ReprKind.Explicit e (sets s.keys s.inner) l _ s.whole refl q)
denoted ReprKind.Explicit (mset_dom ms es d) ds w n h env e l g q p = cc
denoted ReprKind.Explicit (function_dom ms es d c) ds w n h env e l g q p = cc
denoted ReprKind.Explicit (relation_dom ms es ts) ds w n h env e l g q p = cc
denoted ReprKind.Explicit (partition_dom ms es d) ds w n h env e l g q p = cc
denoted ReprKind.ExplicitVarSizeWithMarker bool_dom ds w n h env e l g q p = cc
denoted ReprKind.ExplicitVarSizeWithMarker (int_dom rs es) ds w n h env e l g q p = cc
denoted ReprKind.ExplicitVarSizeWithMarker (name_dom a) ds w n h env e l g q p = cc
denoted ReprKind.ExplicitVarSizeWithMarker (tuple_dom ts) ds w n h env e l g q p = cc
denoted ReprKind.ExplicitVarSizeWithMarker (record_dom fs ts) ds w n h env e l g q p = cc
denoted ReprKind.ExplicitVarSizeWithMarker (matrix_dom is d) ds w n h env e l g q p = cc
denoted ReprKind.ExplicitVarSizeWithMarker (set_dom ms es d) ds w n h env e l g q p =
    let s : SetOf sets ms es d env e = set-of sets ms es d env e g in
    only d env s.inner s.part ∙ ap Some (at ReprKind.ExplicitVarSizeWithMarker e (sets s.keys s.inner) l _ s.whole refl q)
denoted ReprKind.ExplicitVarSizeWithMarker (mset_dom ms es d) ds w n h env e l g q p = cc
denoted ReprKind.ExplicitVarSizeWithMarker (function_dom ms es d c) ds w n h env e l g q p = cc
denoted ReprKind.ExplicitVarSizeWithMarker (relation_dom ms es ts) ds w n h env e l g q p = cc
denoted ReprKind.ExplicitVarSizeWithMarker (partition_dom ms es d) ds w n h env e l g q p = cc
denoted ReprKind.ExplicitVarSizeWithFlags bool_dom ds w n h env e l g q p = cc
denoted ReprKind.ExplicitVarSizeWithFlags (int_dom rs es) ds w n h env e l g q p = cc
denoted ReprKind.ExplicitVarSizeWithFlags (name_dom a) ds w n h env e l g q p = cc
denoted ReprKind.ExplicitVarSizeWithFlags (tuple_dom ts) ds w n h env e l g q p = cc
denoted ReprKind.ExplicitVarSizeWithFlags (record_dom fs ts) ds w n h env e l g q p = cc
denoted ReprKind.ExplicitVarSizeWithFlags (matrix_dom is d) ds w n h env e l g q p = cc
denoted ReprKind.ExplicitVarSizeWithFlags (set_dom ms es d) ds w n h env e l g q p =
    let s : SetOf sets ms es d env e = set-of sets ms es d env e g in
    only d env s.inner s.part ∙ ap Some (at ReprKind.ExplicitVarSizeWithFlags e (sets s.keys s.inner) l _ s.whole refl q)
denoted ReprKind.ExplicitVarSizeWithFlags (mset_dom ms es d) ds w n h env e l g q p = cc
denoted ReprKind.ExplicitVarSizeWithFlags (function_dom ms es d c) ds w n h env e l g q p = cc
denoted ReprKind.ExplicitVarSizeWithFlags (relation_dom ms es ts) ds w n h env e l g q p = cc
denoted ReprKind.ExplicitVarSizeWithFlags (partition_dom ms es d) ds w n h env e l g q p = cc
denoted ReprKind.ExplicitVarSizeWithDummy bool_dom ds w n h env e l g q p = cc
denoted ReprKind.ExplicitVarSizeWithDummy (int_dom rs es) ds w n h env e l g q p = cc
denoted ReprKind.ExplicitVarSizeWithDummy (name_dom a) ds w n h env e l g q p = cc
denoted ReprKind.ExplicitVarSizeWithDummy (tuple_dom ts) ds w n h env e l g q p = cc
denoted ReprKind.ExplicitVarSizeWithDummy (record_dom fs ts) ds w n h env e l g q p = cc
denoted ReprKind.ExplicitVarSizeWithDummy (matrix_dom is d) ds w n h env e l g q p = cc
denoted ReprKind.ExplicitVarSizeWithDummy (set_dom ms es d) ds w n h env e l g q p =
    let s : SetOf sets ms es d env e = set-of sets ms es d env e g in
    ap Some (at ReprKind.ExplicitVarSizeWithDummy e (sets s.keys s.inner) l _ s.whole refl q)
denoted ReprKind.ExplicitVarSizeWithDummy (mset_dom ms es d) ds w n h env e l g q p = cc
denoted ReprKind.ExplicitVarSizeWithDummy (function_dom ms es d c) ds w n h env e l g q p = cc
denoted ReprKind.ExplicitVarSizeWithDummy (relation_dom ms es ts) ds w n h env e l g q p = cc
denoted ReprKind.ExplicitVarSizeWithDummy (partition_dom ms es d) ds w n h env e l g q p = cc
denoted ReprKind.MSetOccurrence bool_dom ds w n h env e l g q p = cc
denoted ReprKind.MSetOccurrence (int_dom rs es) ds w n h env e l g q p = cc
denoted ReprKind.MSetOccurrence (name_dom a) ds w n h env e l g q p = cc
denoted ReprKind.MSetOccurrence (tuple_dom ts) ds w n h env e l g q p = cc
denoted ReprKind.MSetOccurrence (record_dom fs ts) ds w n h env e l g q p = cc
denoted ReprKind.MSetOccurrence (matrix_dom is d) ds w n h env e l g q p = cc
denoted ReprKind.MSetOccurrence (set_dom ms es d) ds w n h env e l g q p = cc
denoted ReprKind.MSetOccurrence (mset_dom ms es d) ds w n h env e l g q p =
    let s : SetOf msets ms es d env e = set-of msets ms es d env e g in
    ap Some (at ReprKind.MSetOccurrence e (msets s.keys s.inner) l _ s.whole refl q)
denoted ReprKind.MSetOccurrence (function_dom ms es d c) ds w n h env e l g q p = cc
denoted ReprKind.MSetOccurrence (relation_dom ms es ts) ds w n h env e l g q p = cc
denoted ReprKind.MSetOccurrence (partition_dom ms es d) ds w n h env e l g q p = cc
denoted ReprKind.MSetExplicitWithRepetition bool_dom ds w n h env e l g q p = cc
denoted ReprKind.MSetExplicitWithRepetition (int_dom rs es) ds w n h env e l g q p = cc
denoted ReprKind.MSetExplicitWithRepetition (name_dom a) ds w n h env e l g q p = cc
denoted ReprKind.MSetExplicitWithRepetition (tuple_dom ts) ds w n h env e l g q p = cc
denoted ReprKind.MSetExplicitWithRepetition (record_dom fs ts) ds w n h env e l g q p = cc
denoted ReprKind.MSetExplicitWithRepetition (matrix_dom is d) ds w n h env e l g q p = cc
denoted ReprKind.MSetExplicitWithRepetition (set_dom ms es d) ds w n h env e l g q p = cc
denoted ReprKind.MSetExplicitWithRepetition (mset_dom ms es d) ds w n h env e l g q p =
    let s : SetOf msets ms es d env e = set-of msets ms es d env e g in
    only d env s.inner s.part ∙ ap Some (at ReprKind.MSetExplicitWithRepetition e (msets s.keys s.inner) l _ s.whole refl q)
denoted ReprKind.MSetExplicitWithRepetition (function_dom ms es d c) ds w n h env e l g q p = cc
denoted ReprKind.MSetExplicitWithRepetition (relation_dom ms es ts) ds w n h env e l g q p = cc
denoted ReprKind.MSetExplicitWithRepetition (partition_dom ms es d) ds w n h env e l g q p = cc
denoted ReprKind.MSetExplicitWithFlags bool_dom ds w n h env e l g q p = cc
denoted ReprKind.MSetExplicitWithFlags (int_dom rs es) ds w n h env e l g q p = cc
denoted ReprKind.MSetExplicitWithFlags (name_dom a) ds w n h env e l g q p = cc
denoted ReprKind.MSetExplicitWithFlags (tuple_dom ts) ds w n h env e l g q p = cc
denoted ReprKind.MSetExplicitWithFlags (record_dom fs ts) ds w n h env e l g q p = cc
denoted ReprKind.MSetExplicitWithFlags (matrix_dom is d) ds w n h env e l g q p = cc
denoted ReprKind.MSetExplicitWithFlags (set_dom ms es d) ds w n h env e l g q p = cc
denoted ReprKind.MSetExplicitWithFlags (mset_dom ms es d) ds w n h env e l g q p =
    let s : SetOf msets ms es d env e = set-of msets ms es d env e g in
    only d env s.inner s.part ∙ ap Some (at ReprKind.MSetExplicitWithFlags e (msets s.keys s.inner) l _ s.whole refl q)
denoted ReprKind.MSetExplicitWithFlags (function_dom ms es d c) ds w n h env e l g q p = cc
denoted ReprKind.MSetExplicitWithFlags (relation_dom ms es ts) ds w n h env e l g q p = cc
denoted ReprKind.MSetExplicitWithFlags (partition_dom ms es d) ds w n h env e l g q p = cc
denoted ReprKind.Function1D bool_dom ds w n h env e l g q p = cc
denoted ReprKind.Function1D (int_dom rs es) ds w n h env e l g q p = cc
denoted ReprKind.Function1D (name_dom a) ds w n h env e l g q p = cc
denoted ReprKind.Function1D (tuple_dom ts) ds w n h env e l g q p = cc
denoted ReprKind.Function1D (record_dom fs ts) ds w n h env e l g q p = cc
denoted ReprKind.Function1D (matrix_dom is d) ds w n h env e l g q p = cc
denoted ReprKind.Function1D (set_dom ms es d) ds w n h env e l g q p = cc
denoted ReprKind.Function1D (mset_dom ms es d) ds w n h env e l g q p = cc
denoted ReprKind.Function1D (function_dom ms es d c) ds w n h env e l g q p =
    let f : FunctionOf ms es d c env e = function-of ms es d c env e g in
    only c env f.second f.to ∙ ap Some (at ReprKind.Function1D e (functions f.keys f.first f.second) l _ f.whole refl q)
denoted ReprKind.Function1D (relation_dom ms es ts) ds w n h env e l g q p = cc
denoted ReprKind.Function1D (partition_dom ms es d) ds w n h env e l g q p = cc
denoted ReprKind.Function1DPartial bool_dom ds w n h env e l g q p = cc
denoted ReprKind.Function1DPartial (int_dom rs es) ds w n h env e l g q p = cc
denoted ReprKind.Function1DPartial (name_dom a) ds w n h env e l g q p = cc
denoted ReprKind.Function1DPartial (tuple_dom ts) ds w n h env e l g q p = cc
denoted ReprKind.Function1DPartial (record_dom fs ts) ds w n h env e l g q p = cc
denoted ReprKind.Function1DPartial (matrix_dom is d) ds w n h env e l g q p = cc
denoted ReprKind.Function1DPartial (set_dom ms es d) ds w n h env e l g q p = cc
denoted ReprKind.Function1DPartial (mset_dom ms es d) ds w n h env e l g q p = cc
denoted ReprKind.Function1DPartial (function_dom ms es d c) ds w n h env e l g q p =
    let f : FunctionOf ms es d c env e = function-of ms es d c env e g in
    only c env f.second f.to ∙ ap Some (at ReprKind.Function1DPartial e (functions f.keys f.first f.second) l _ f.whole refl q)
denoted ReprKind.Function1DPartial (relation_dom ms es ts) ds w n h env e l g q p = cc
denoted ReprKind.Function1DPartial (partition_dom ms es d) ds w n h env e l g q p = cc
denoted ReprKind.FunctionND bool_dom ds w n h env e l g q p = cc
denoted ReprKind.FunctionND (int_dom rs es) ds w n h env e l g q p = cc
denoted ReprKind.FunctionND (name_dom a) ds w n h env e l g q p = cc
denoted ReprKind.FunctionND (tuple_dom ts) ds w n h env e l g q p = cc
denoted ReprKind.FunctionND (record_dom fs ts) ds w n h env e l g q p = cc
denoted ReprKind.FunctionND (matrix_dom is d) ds w n h env e l g q p = cc
denoted ReprKind.FunctionND (set_dom ms es d) ds w n h env e l g q p = cc
denoted ReprKind.FunctionND (mset_dom ms es d) ds w n h env e l g q p = cc
denoted ReprKind.FunctionND (function_dom ms es d c) ds w n h env e l g q p =
    let f : FunctionOf ms es d c env e = function-of ms es d c env e g in
    only c env f.second f.to ∙ ap Some (nd-children f.keys f.first f.second l (ap (layer ReprKind.FunctionND) f.whole ∙ q))
denoted ReprKind.FunctionND (relation_dom ms es ts) ds w n h env e l g q p = cc
denoted ReprKind.FunctionND (partition_dom ms es d) ds w n h env e l g q p = cc
denoted ReprKind.FunctionNDPartial bool_dom ds w n h env e l g q p = cc
denoted ReprKind.FunctionNDPartial (int_dom rs es) ds w n h env e l g q p = cc
denoted ReprKind.FunctionNDPartial (name_dom a) ds w n h env e l g q p = cc
denoted ReprKind.FunctionNDPartial (tuple_dom ts) ds w n h env e l g q p = cc
denoted ReprKind.FunctionNDPartial (record_dom fs ts) ds w n h env e l g q p = cc
denoted ReprKind.FunctionNDPartial (matrix_dom is d) ds w n h env e l g q p = cc
denoted ReprKind.FunctionNDPartial (set_dom ms es d) ds w n h env e l g q p = cc
denoted ReprKind.FunctionNDPartial (mset_dom ms es d) ds w n h env e l g q p = cc
denoted ReprKind.FunctionNDPartial (function_dom ms es d c) ds w n h env e l g q p =
    let f : FunctionOf ms es d c env e = function-of ms es d c env e g in
    only c env f.second f.to ∙ ap Some (nd-partial-children f.keys f.first f.second l (ap (layer ReprKind.FunctionNDPartial) f.whole ∙ q))
denoted ReprKind.FunctionNDPartial (relation_dom ms es ts) ds w n h env e l g q p = cc
denoted ReprKind.FunctionNDPartial (partition_dom ms es d) ds w n h env e l g q p = cc
denoted ReprKind.FunctionAsRelation bool_dom ds w n h env e l g q p = cc
denoted ReprKind.FunctionAsRelation (int_dom rs es) ds w n h env e l g q p = cc
denoted ReprKind.FunctionAsRelation (name_dom a) ds w n h env e l g q p = cc
denoted ReprKind.FunctionAsRelation (tuple_dom ts) ds w n h env e l g q p = cc
denoted ReprKind.FunctionAsRelation (record_dom fs ts) ds w n h env e l g q p = cc
denoted ReprKind.FunctionAsRelation (matrix_dom is d) ds w n h env e l g q p = cc
denoted ReprKind.FunctionAsRelation (set_dom ms es d) ds w n h env e l g q p = cc
denoted ReprKind.FunctionAsRelation (mset_dom ms es d) ds w n h env e l g q p = cc
denoted ReprKind.FunctionAsRelation (function_dom ms es d c) ds w n h env e l g q p = pairs-are-denoted ms es d c (record { right = w.0; full = n }) env e l g q p
denoted ReprKind.FunctionAsRelation (relation_dom ms es ts) ds w n h env e l g q p = cc
denoted ReprKind.FunctionAsRelation (partition_dom ms es d) ds w n h env e l g q p = cc
denoted ReprKind.RelationAsMatrix bool_dom ds w n h env e l g q p = cc
denoted ReprKind.RelationAsMatrix (int_dom rs es) ds w n h env e l g q p = cc
denoted ReprKind.RelationAsMatrix (name_dom a) ds w n h env e l g q p = cc
denoted ReprKind.RelationAsMatrix (tuple_dom ts) ds w n h env e l g q p = cc
denoted ReprKind.RelationAsMatrix (record_dom fs ts) ds w n h env e l g q p = cc
denoted ReprKind.RelationAsMatrix (matrix_dom is d) ds w n h env e l g q p = cc
denoted ReprKind.RelationAsMatrix (set_dom ms es d) ds w n h env e l g q p = cc
denoted ReprKind.RelationAsMatrix (mset_dom ms es d) ds w n h env e l g q p = cc
denoted ReprKind.RelationAsMatrix (function_dom ms es d c) ds w n h env e l g q p = cc
denoted ReprKind.RelationAsMatrix (relation_dom ms es ts) ds w n h env e l g q p =
    let c = chained (attributes_of ms (meanings es env)) (λ ks. option_map (relations ks) (domains_of ts env)) e g in
    let m = mapped (relations c.0) (domains_of ts env) e c.2 in
    ap Some (at ReprKind.RelationAsMatrix e (relations c.0 m.0) l _ m.2 refl q)
denoted ReprKind.RelationAsMatrix (partition_dom ms es d) ds w n h env e l g q p = cc
denoted ReprKind.RelationAsSet bool_dom ds w n h env e l g q p = cc
denoted ReprKind.RelationAsSet (int_dom rs es) ds w n h env e l g q p = cc
denoted ReprKind.RelationAsSet (name_dom a) ds w n h env e l g q p = cc
denoted ReprKind.RelationAsSet (tuple_dom ts) ds w n h env e l g q p = cc
denoted ReprKind.RelationAsSet (record_dom fs ts) ds w n h env e l g q p = cc
denoted ReprKind.RelationAsSet (matrix_dom is d) ds w n h env e l g q p = cc
denoted ReprKind.RelationAsSet (set_dom ms es d) ds w n h env e l g q p = cc
denoted ReprKind.RelationAsSet (mset_dom ms es d) ds w n h env e l g q p = cc
denoted ReprKind.RelationAsSet (function_dom ms es d c) ds w n h env e l g q p = cc
denoted ReprKind.RelationAsSet (relation_dom ms es ts) ds w n h env e l g q p = tuples-are-denoted ms es ts env e l g q p
denoted ReprKind.RelationAsSet (partition_dom ms es d) ds w n h env e l g q p = cc
denoted ReprKind.PartitionOccurrence bool_dom ds w n h env e l g q p = cc
denoted ReprKind.PartitionOccurrence (int_dom rs es) ds w n h env e l g q p = cc
denoted ReprKind.PartitionOccurrence (name_dom a) ds w n h env e l g q p = cc
denoted ReprKind.PartitionOccurrence (tuple_dom ts) ds w n h env e l g q p = cc
denoted ReprKind.PartitionOccurrence (record_dom fs ts) ds w n h env e l g q p = cc
denoted ReprKind.PartitionOccurrence (matrix_dom is d) ds w n h env e l g q p = cc
denoted ReprKind.PartitionOccurrence (set_dom ms es d) ds w n h env e l g q p = cc
denoted ReprKind.PartitionOccurrence (mset_dom ms es d) ds w n h env e l g q p = cc
denoted ReprKind.PartitionOccurrence (function_dom ms es d c) ds w n h env e l g q p = cc
denoted ReprKind.PartitionOccurrence (relation_dom ms es ts) ds w n h env e l g q p = cc
denoted ReprKind.PartitionOccurrence (partition_dom ms es d) ds w n h env e l g q p =
    let s : SetOf partitions ms es d env e = set-of partitions ms es d env e g in
    ap Some (at ReprKind.PartitionOccurrence e (partitions s.keys s.inner) l _ s.whole refl q)
denoted ReprKind.PartitionAsSet bool_dom ds w n h env e l g q p = cc
denoted ReprKind.PartitionAsSet (int_dom rs es) ds w n h env e l g q p = cc
denoted ReprKind.PartitionAsSet (name_dom a) ds w n h env e l g q p = cc
denoted ReprKind.PartitionAsSet (tuple_dom ts) ds w n h env e l g q p = cc
denoted ReprKind.PartitionAsSet (record_dom fs ts) ds w n h env e l g q p = cc
denoted ReprKind.PartitionAsSet (matrix_dom is d) ds w n h env e l g q p = cc
denoted ReprKind.PartitionAsSet (set_dom ms es d) ds w n h env e l g q p = cc
denoted ReprKind.PartitionAsSet (mset_dom ms es d) ds w n h env e l g q p = cc
denoted ReprKind.PartitionAsSet (function_dom ms es d c) ds w n h env e l g q p = cc
denoted ReprKind.PartitionAsSet (relation_dom ms es ts) ds w n h env e l g q p = cc
denoted ReprKind.PartitionAsSet (partition_dom ms es d) ds w n h env e l g q p = parts-are-denoted ms es d (record { right = w.0; full = n }) env e l g q p

-- The children are the right ones.
pub children-are : (k : ReprKind) (d : Dom) (ds : List Dom) → Well d → has_numbers d ≡ true → child_forms k d ≡ Some ds → ChildrenAre k d (child_doms k d)
children-are k d ds w n h = record { forms = formed k d ds w n h; denote = denoted k d ds w n h }
