-- Where a number in a part of a domain lies outside 64 bits, so does one of the whole.
use Rattle.std.proofs.Common.{◌≡◌, Bool, true, ◌||◌, List, map}
use Rattle.ess_semantics.specs.Kinds.{doms_of}
use Rattle.ess_semantics.specs.Trees as pure
use Rattle.ess_semantics.specs.Trees.{more_doms, function_dom}
use Rattle.ess_semantics.specs.Meaning.{Env}
use Rattle.ess_semantics.specs.Large.{any_large, is_large_dom, any_large_dom}
use Rattle.ess_core.specs.TreeViews.{pure_dom, pure_doms, pure_attr, pure_range, pure_field_dom, exs_of, field_values, within}
use Rattle.ess_core.specs.declared.domains.Dom.{Dom}
use Rattle.ess_core.specs.declared.domains.FieldDom.{FieldDom}
use Rattle.ess_core.specs.declared.domains.Attr.{Attr}
use Rattle.ess_core.specs.declared.domains.Range.{Range}
use Rattle.ess_core.specs.declared.domains.Dom.TheVariants as variant
use Rattle.ess_core.proofs.DomainEquations.{pure_int, pure_tuple, pure_rec, pure_matrix, pure_set, pure_mset, pure_relation, pure_partition}
use Rattle.ess_eval.proofs.Excuses.{or_left, or_right}

pub large_in_ranges : (rs : List Range) (env : Env) → any_large (exs_of (within (map pure_range rs))) env ≡ true
    → is_large_dom (pure_dom (variant.Int rs)) env ≡ true
large_in_ranges rs env h = rw (pure_int rs) h

pub large_in_components : (ds : List Dom) (env : Env) → any_large_dom (pure_doms ds) env ≡ true
    → is_large_dom (pure_dom (variant.Tuple ds)) env ≡ true
large_in_components ds env h = rw (pure_tuple ds) h

pub large_in_fields : (fs : List FieldDom) (env : Env) → any_large_dom (doms_of (field_values (map pure_field_dom fs))) env ≡ true
    → is_large_dom (pure_dom (variant.Rec fs)) env ≡ true
large_in_fields fs env h = rw (pure_rec fs) h

pub large_in_axes : (ds : List Dom) (d : Dom) (env : Env) → any_large_dom (pure_doms ds) env ≡ true
    → is_large_dom (pure_dom (variant.Matrix ds d)) env ≡ true
large_in_axes ds d env h = rw (pure_matrix ds d) (or_left _ _ h)

pub large_in_item : (ds : List Dom) (d : Dom) (env : Env) → is_large_dom (pure_dom d) env ≡ true
    → is_large_dom (pure_dom (variant.Matrix ds d)) env ≡ true
large_in_item ds d env h = rw (pure_matrix ds d) (or_right _ _ h)

pub large_of_set : (ms : List Attr) (d : Dom) (env : Env) → any_large (exs_of (within (map pure_attr ms))) env ≡ true
    → is_large_dom (pure_dom (variant.Set ms d)) env ≡ true
large_of_set ms d env h = rw (pure_set ms d) (or_left _ _ h)

pub large_in_member : (ms : List Attr) (d : Dom) (env : Env) → is_large_dom (pure_dom d) env ≡ true
    → is_large_dom (pure_dom (variant.Set ms d)) env ≡ true
large_in_member ms d env h = rw (pure_set ms d) (or_right _ _ h)

pub large_of_mset : (ms : List Attr) (d : Dom) (env : Env) → any_large (exs_of (within (map pure_attr ms))) env ≡ true
    → is_large_dom (pure_dom (variant.MSet ms d)) env ≡ true
large_of_mset ms d env h = rw (pure_mset ms d) (or_left _ _ h)

pub large_in_repeated : (ms : List Attr) (d : Dom) (env : Env) → is_large_dom (pure_dom d) env ≡ true
    → is_large_dom (pure_dom (variant.MSet ms d)) env ≡ true
large_in_repeated ms d env h = rw (pure_mset ms d) (or_right _ _ h)

pub large_of_partition : (ms : List Attr) (d : Dom) (env : Env) → any_large (exs_of (within (map pure_attr ms))) env ≡ true
    → is_large_dom (pure_dom (variant.Partition ms d)) env ≡ true
large_of_partition ms d env h = rw (pure_partition ms d) (or_left _ _ h)

pub large_in_part : (ms : List Attr) (d : Dom) (env : Env) → is_large_dom (pure_dom d) env ≡ true
    → is_large_dom (pure_dom (variant.Partition ms d)) env ≡ true
large_in_part ms d env h = rw (pure_partition ms d) (or_right _ _ h)

pub large_of_relation : (ms : List Attr) (ds : List Dom) (env : Env) → any_large (exs_of (within (map pure_attr ms))) env ≡ true
    → is_large_dom (pure_dom (variant.Relation ms ds)) env ≡ true
large_of_relation ms ds env h = rw (pure_relation ms ds) (or_left _ _ h)

pub large_in_columns : (ms : List Attr) (ds : List Dom) (env : Env) → any_large_dom (pure_doms ds) env ≡ true
    → is_large_dom (pure_dom (variant.Relation ms ds)) env ≡ true
large_in_columns ms ds env h = rw (pure_relation ms ds) (or_right _ _ h)

-- Of the three parts of a domain of functions.
pub large_own : (ms : List pure.Mark) (es : pure.Exs) (d c : pure.Dom) (env : Env) → any_large es env ≡ true
    → is_large_dom (function_dom ms es d c) env ≡ true
large_own ms es d c env h =
    or_left (any_large es env || is_large_dom d env) (is_large_dom c env) (or_left (any_large es env) (is_large_dom d env) h)

pub large_first_part : (ms : List pure.Mark) (es : pure.Exs) (d c : pure.Dom) (env : Env) → is_large_dom d env ≡ true
    → is_large_dom (function_dom ms es d c) env ≡ true
large_first_part ms es d c env h =
    or_left (any_large es env || is_large_dom d env) (is_large_dom c env) (or_right (any_large es env) (is_large_dom d env) h)

pub large_second_part : (ms : List pure.Mark) (es : pure.Exs) (d c : pure.Dom) (env : Env) → is_large_dom c env ≡ true
    → is_large_dom (function_dom ms es d c) env ≡ true
large_second_part ms es d c env h = or_right (any_large es env || is_large_dom d env) (is_large_dom c env) h

pub large_first_dom : (d : pure.Dom) (ds : pure.Doms) (env : Env) → is_large_dom d env ≡ true → any_large_dom (more_doms d ds) env ≡ true
large_first_dom d ds env h = or_left _ _ h

pub large_later_dom : (d : pure.Dom) (ds : pure.Doms) (env : Env) → any_large_dom ds env ≡ true → any_large_dom (more_doms d ds) env ≡ true
large_later_dom d ds env h = or_right _ _ h

pub ruleset large_in_domain_parts = (
  large_in_ranges,
  large_in_components,
  large_in_fields,
  large_in_axes,
  large_in_item,
  large_of_set,
  large_in_member,
  large_of_mset,
  large_in_repeated,
  large_of_partition,
  large_in_part,
  large_of_relation,
  large_in_columns,
)
