-- Domains of numbers, from their ranges.
use Rattle.std.proofs.Common.{◌≡◌, sym, ap, Bool, true, false, List, [], map, Some, None, option_map}
use Rattle.ess_semantics.specs.Lists.{append_all}
use Rattle.ess_semantics.specs.Values.{Text}
use Rattle.ess_semantics.specs.Domains.{integers}
use Rattle.ess_semantics.specs.Meaning.{Env, meanings, domain_of, spans_of}
use Rattle.ess_semantics.specs.Large.{any_large, is_large_dom}
use Rattle.eprime_tree.specs.Views.{exs_of}
use Rattle.eprime_eval_kinds.specs.declared.tree.KRange.{KRange}
use Rattle.eprime_eval_kinds.specs.declared.tree.KDom.TheVariants as variant
use Rattle.eprime_eval_kinds.specs.KindedViews.{pure_kdom, pure_krange}
use Rattle.eprime_eval_kinds.proofs.KindedEquations.{pure_kdom_int}
use Rattle.eprime_eval_scalars.specs.declared.running.Run.{Run}
use Rattle.eprime_eval_scalars.specs.Runs.{pure_run}
use Rattle.eprime_eval.specs.Items.{Gathered}
use Rattle.eprime_eval.proofs.Gathering.{gathered_all}

-- Ranges that were put behind nothing are those of the domain.
pub ranges_there : (ns : List Text) (rs : List KRange) (env : Env) (t : Bool) (old new : List Run) → old ≡ [] → t ≡ true
    → Gathered t (map pure_run old) (map pure_run new)
    (spans_of (map (λ r. r.0) (map (pure_krange ns) rs)) (meanings (exs_of (append_all (map (λ r. r.1) (map (pure_krange ns) rs)))) env))
    → Some (integers (map pure_run new)) ≡ domain_of (pure_kdom ns (variant.Int rs)) env
ranges_there ns rs env t old new e f h =
    let k = rw (e, f) at h in
    rw (pure_kdom_int ns rs) (sym (ap (option_map integers) (gathered_all (map pure_run new) _ k)))

-- Where they aren't there, neither is the domain.
pub ranges_missing : (ns : List Text) (rs : List KRange) (env : Env) (t : Bool) (old new : List Run) → t ≡ false
    → Gathered t (map pure_run old) (map pure_run new)
    (spans_of (map (λ r. r.0) (map (pure_krange ns) rs)) (meanings (exs_of (append_all (map (λ r. r.1) (map (pure_krange ns) rs)))) env))
    → None ≡ domain_of (pure_kdom ns (variant.Int rs)) env
ranges_missing ns rs env t old new f h =
    let k = rw f at h in rw (pure_kdom_int ns rs) (sym (ap (option_map integers) k))

pub large_in_ranges : (ns : List Text) (rs : List KRange) (env : Env)
    → any_large (exs_of (append_all (map (λ r. r.1) (map (pure_krange ns) rs)))) env ≡ true → is_large_dom (pure_kdom ns (variant.Int rs)) env ≡ true
large_in_ranges ns rs env h = rw (pure_kdom_int ns rs) h

pub ruleset closed_ranges = (ranges_there, ranges_missing, large_in_ranges)
