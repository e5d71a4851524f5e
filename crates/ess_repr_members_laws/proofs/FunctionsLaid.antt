-- The layers of functions, relations and partitions.
use Rattle.std.proofs.Common.{◌≡◌, refl, ap, ◌∙◌, subst, true, Bool, ◌&&◌, List, [], ◌∷◌, map, pos, Some, option_map}
use Rattle.ess_semantics.specs.declared.words.ReprKind.{ReprKind}
use Rattle.ess_semantics.specs.Domains.{Domain, Domains, booleans, tuples, functions, relations, partitions, domain_list, between}
use Rattle.ess_semantics.specs.Membership.{no_negative_attribute}
use Rattle.ess_semantics.specs.Sizes.{bound}
use Rattle.ess_semantics.specs.Kinds.{dom_list, is_atom, is_atom_tuple, are_atoms}
use Rattle.ess_semantics.specs.Trees.{Mark, Exs, no_exs, more_exs, both_ends, Dom, Doms, bool_dom, int_dom, name_dom, tuple_dom, record_dom, matrix_dom, set_dom, mset_dom, function_dom, relation_dom, partition_dom}
use Rattle.ess_semantics.specs.Layers.{codes_of, up_to}
use Rattle.ess_semantics.specs.FunctionLayers.{function_1d_layer, function_1d_partial_layer, function_nd_layer, function_nd_partial_layer}
use Rattle.ess_semantics.specs.RelationLayers.{relation_matrix_layer}
use Rattle.ess_semantics.specs.PartitionLayers.{partition_occurrence_layer}
use Rattle.ess_semantics.specs.Meaning.{Env, meanings, attributes_of, domain_of, domains_of}
use Rattle.ess_semantics.proofs.Tests.{and-left, and-right}
use Rattle.ess_repr_laws.specs.StructureParts.{upto}
use Rattle.ess_repr_declare_laws.specs.SizeTerms.{zero_ex, one_ex, bound_ex}
use Rattle.ess_repr_declare_laws.specs.DeclaredTrees.{axis_dom, argument_axes, from_to, widened_if}
use Rattle.ess_repr_declare_laws.proofs.Readings.{Reads}
use Rattle.ess_repr_declare_laws.proofs.SizeNumbers.{mapped, chained, not_below}
use Rattle.ess_repr_declare_laws.proofs.SizeMeaning.{bound-is}
use Rattle.ess_repr_declare_laws.proofs.ChildDomainsDenoted.{only, SetOf, set-of, FunctionOf, function-of}
use Rattle.ess_repr_members_laws.specs.Fields.{Fielded}
use Rattle.ess_repr_members_laws.proofs.TableLists.{Ranged, one-axis}
use Rattle.ess_repr_members_laws.proofs.AtomAxes.{atom-axis, atom-axes, upto-denotes}
use Rattle.ess_repr_members_laws.proofs.SizeDomains.{wide_if, up_to-denotes, widened_if-denotes}
use Rattle.ess_repr_members_laws.proofs.LayerParts.{own-fixed, LaidOut}

-- ---- functions

-- What is known of the parts of a function.
record Sides (ms : List Mark) (es : Exs) (d c : Dom) (env : Env) (e : Domain) : Type 0 where
  pub parts : FunctionOf ms es d c env e
  pub keys-plain : not_below parts.keys ≡ true
  pub first-plain : no_negative_attribute parts.first ≡ true
  pub second-plain : no_negative_attribute parts.second ≡ true

sides : (env : Env) (ms : List Mark) (es : Exs) (d c : Dom) (e : Domain) → domain_of (function_dom ms es d c) env ≡ Some e →
    no_negative_attribute e ≡ true →
    Sides ms es d c env e
sides env ms es d c e h n =
    let f : FunctionOf ms es d c env e = function-of ms es d c env e h in
    let p : (not_below f.keys && no_negative_attribute f.first) && no_negative_attribute f.second ≡ true =
    ap no_negative_attribute f.whole ∙ n in
    let q : not_below f.keys && no_negative_attribute f.first ≡ true =
    and-left (not_below f.keys && no_negative_attribute f.first) (no_negative_attribute f.second) p in
    record {
      parts = f;
      keys-plain = and-left (not_below f.keys) (no_negative_attribute f.first) q;
      first-plain = and-right (not_below f.keys) (no_negative_attribute f.first) q;
      second-plain = and-right (not_below f.keys && no_negative_attribute f.first) (no_negative_attribute f.second) p;
    }

-- The axis over an atom.
atom-ranged : (env : Env) (d : Dom) (x : Domain) → is_atom d ≡ true → domain_of d env ≡ Some x →
    Ranged env (axis_dom d ∷ []) (codes_of x ∷ [])
atom-ranged env d x a h = one-axis env (axis_dom d) (codes_of x) (atom-axis env d x a h)

-- The layer of each kind is laid out.
pub function_1d-laid : (env : Env) (ms : List Mark) (es : Exs) (d c : Dom) (e : Domain) → is_atom d ≡ true → Fielded c →
    domain_of (function_dom ms es d c) env ≡ Some e →
    no_negative_attribute e ≡ true → LaidOut env ReprKind.Function1D (function_dom ms es d c) e
function_1d-laid env ms es d c e a g h n =
    let s : Sides ms es d c env e = sides env ms es d c e h n in
    subst (LaidOut env ReprKind.Function1D (function_dom ms es d c)) s.parts.whole (record {
      over = function_1d_layer s.parts.keys s.parts.first s.parts.second;
      there = refl;
      own = λ out. tt;
      axes = atom-ranged env d s.parts.first a s.parts.from;
      frees = refl;
      children = only c env s.parts.second s.parts.to;
      plain = (s.second-plain, tt);
      fielded = (g, tt);
      named = tt;
    })

pub function_1d_partial-laid : (env : Env) (ms : List Mark) (es : Exs) (d c : Dom) (e : Domain) → is_atom d ≡ true → Fielded c →
    domain_of (function_dom ms es d c) env ≡ Some e → no_negative_attribute e ≡ true →
    LaidOut env ReprKind.Function1DPartial (function_dom ms es d c) e
function_1d_partial-laid env ms es d c e a g h n =
    let s : Sides ms es d c env e = sides env ms es d c e h n in
    let r : Ranged env (axis_dom d ∷ []) (codes_of s.parts.first ∷ []) = atom-ranged env d s.parts.first a s.parts.from in
    subst (LaidOut env ReprKind.Function1DPartial (function_dom ms es d c)) s.parts.whole (record {
      over = function_1d_partial_layer s.parts.keys s.parts.first s.parts.second;
      there = refl;
      own = own-fixed env (axis_dom d ∷ []) (codes_of s.parts.first ∷ []) bool_dom booleans r refl;
      axes = r;
      frees = refl;
      children = only c env s.parts.second s.parts.to;
      plain = (s.second-plain, tt);
      fielded = (g, tt);
      named = tt;
    })

-- The axes over a tuple of atoms.
tuple-axes : (env : Env) (d : Dom) (x : Domain) → is_atom_tuple d ≡ true → domain_of d env ≡ Some x →
    (xs : Domains) × (tuples xs ≡ x) × Ranged env (argument_axes d) (map codes_of (domain_list xs))
tuple-axes env (tuple_dom ts) x a h = let m = mapped tuples (domains_of ts env) x h in (m.0, m.2, atom-axes env ts m.0 a m.1)
tuple-axes env bool_dom x a h = cc
tuple-axes env (int_dom rs es) x a h = cc
tuple-axes env (name_dom t) x a h = cc
tuple-axes env (record_dom fs ts) x a h = cc
tuple-axes env (matrix_dom is d) x a h = cc
tuple-axes env (set_dom ms es d) x a h = cc
tuple-axes env (mset_dom ms es d) x a h = cc
tuple-axes env (function_dom ms es d c) x a h = cc
tuple-axes env (relation_dom ms es ts) x a h = cc
tuple-axes env (partition_dom ms es d) x a h = cc

pub function_nd-laid : (env : Env) (ms : List Mark) (es : Exs) (d c : Dom) (e : Domain) → is_atom_tuple d ≡ true → Fielded c →
    domain_of (function_dom ms es d c) env ≡ Some e → no_negative_attribute e ≡ true →
    LaidOut env ReprKind.FunctionND (function_dom ms es d c) e
function_nd-laid env ms es d c e a g h n =
    let s : Sides ms es d c env e = sides env ms es d c e h n in
    let t = tuple-axes env d s.parts.first a s.parts.from in
    subst (LaidOut env ReprKind.FunctionND (function_dom ms es d c))
    (ap (λ x. functions s.parts.keys x s.parts.second) t.1 ∙ s.parts.whole) (record {
      over = function_nd_layer s.parts.keys t.0 s.parts.second;
      there = refl;
      own = λ out. tt;
      axes = t.2;
      frees = refl;
      children = only c env s.parts.second s.parts.to;
      plain = (s.second-plain, tt);
      fielded = (g, tt);
      named = tt;
    })

pub function_nd_partial-laid : (env : Env) (ms : List Mark) (es : Exs) (d c : Dom) (e : Domain) → is_atom_tuple d ≡ true → Fielded c →
    domain_of (function_dom ms es d c) env ≡ Some e → no_negative_attribute e ≡ true →
    LaidOut env ReprKind.FunctionNDPartial (function_dom ms es d c) e
function_nd_partial-laid env ms es d c e a g h n =
    let s : Sides ms es d c env e = sides env ms es d c e h n in
    let t = tuple-axes env d s.parts.first a s.parts.from in
    subst (LaidOut env ReprKind.FunctionNDPartial (function_dom ms es d c))
    (ap (λ x. functions s.parts.keys x s.parts.second) t.1 ∙ s.parts.whole) (record {
      over = function_nd_partial_layer s.parts.keys t.0 s.parts.second;
      there = refl;
      own = own-fixed env (argument_axes d) (map codes_of (domain_list t.0)) bool_dom booleans t.2 refl;
      axes = t.2;
      frees = refl;
      children = only c env s.parts.second s.parts.to;
      plain = (s.second-plain, tt);
      fielded = (g, tt);
      named = tt;
    })

-- ---- relations and partitions over atoms: the layer of each kind is laid out

pub relation_matrix-laid : (env : Env) (ms : List Mark) (es : Exs) (ts : Doms) (e : Domain) → are_atoms ts ≡ true →
    domain_of (relation_dom ms es ts) env ≡ Some e →
    LaidOut env ReprKind.RelationAsMatrix (relation_dom ms es ts) e
relation_matrix-laid env ms es ts e a h =
    let c = chained (attributes_of ms (meanings es env)) (λ ks. option_map (relations ks) (domains_of ts env)) e h in
    let m = mapped (relations c.0) (domains_of ts env) e c.2 in
    subst (LaidOut env ReprKind.RelationAsMatrix (relation_dom ms es ts)) m.2 (record {
      over = relation_matrix_layer c.0 m.0;
      there = refl;
      own = own-fixed env (map axis_dom (dom_list ts)) (map codes_of (domain_list m.0)) bool_dom booleans (atom-axes env ts m.0 a m.1) refl;
      axes = refl;
      frees = refl;
      children = refl;
      plain = tt;
      fielded = tt;
      named = tt;
    })

pub partition_occurrence-laid : (env : Env) (ms : List Mark) (es : Exs) (d : Dom) (e : Domain) → is_atom d ≡ true →
    domain_of (partition_dom ms es d) env ≡ Some e →
    no_negative_attribute e ≡ true → LaidOut env ReprKind.PartitionOccurrence (partition_dom ms es d) e
partition_occurrence-laid env ms es d e a h n =
    let s : SetOf partitions ms es d env e = set-of partitions ms es d env e h in
    let p : not_below s.keys && no_negative_attribute s.inner ≡ true = ap no_negative_attribute s.whole ∙ n in
    let b : Reads (bound_ex d) env (pos (bound s.inner)) =
    bound-is env d s.inner s.part (and-right (not_below s.keys) (no_negative_attribute s.inner) p) in
    let part : Domain = between (pos 1) (pos (bound s.inner)) in
    let numbers : (out : Bool) → domain_of (widened_if out (upto (bound_ex d))) env ≡ Some (wide_if out part) =
    λ out. widened_if-denotes env out (both_ends ∷ []) (more_exs one_ex (more_exs (bound_ex d) no_exs)) part
    (upto-denotes env (bound_ex d) (bound s.inner) b) in
    subst (LaidOut env ReprKind.PartitionOccurrence (partition_dom ms es d)) s.whole (record {
      over = partition_occurrence_layer s.keys s.inner;
      there = refl;
      own = λ out.
          let f =
          own-fixed env [] [] (from_to zero_ex (bound_ex d)) (up_to (bound s.inner)) refl
          (up_to-denotes env (bound_ex d) (bound s.inner) b) out in
          (f.0, f.1, (atom-ranged env d s.inner a s.part, numbers out, tt));
      axes = refl;
      frees = refl;
      children = refl;
      plain = tt;
      fielded = tt;
      named = tt;
    })
