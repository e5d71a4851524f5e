-- Words that see no repeats and no index domain, by the parts of the root.
use Rattle.std.proofs.Common.{◌≡◌, refl, Bool, true, false, if◌then◌else◌, ◌&&◌, ◌||◌, Some, None, option_map}
use Rattle.ess_semantics.specs.declared.words.Fun.{Fun}
use Rattle.ess_semantics.specs.declared.words.Op2.{Op2}
use Rattle.ess_semantics.specs.Lists.{and_then}
use Rattle.ess_semantics.specs.Trees.{binary, word, Ex, Exs, node_ex, comp_ex, ex2, fun1, no_exs, more_exs, Gens, from}
use Rattle.ess_rules_laws.specs.FoldRules.{is_fold}
use Rattle.ess_rules_laws.specs.ListRules.{is_lex, is_of_list}
use Rattle.ess_rules_laws.specs.SpliceRules.{append_gens}
use Rattle.ess_open_rules_laws.specs.OpenGenerators.{at_first_open}
use Rattle.ess_open_rules_laws.specs.OpenSources.{forgets_repeats, loose_source, seen_loosely, is_placed, plain_list, listed_plainly}
use Rattle.ess_rules_folds.specs.Forms.{from_parts, made_set_of}
use Rattle.ess_rules_forms.specs.Forms.{only_operand, both_operands}
use Rattle.ess_rules_opening.specs.OpenedViews.{comp_word}

pub loosely_by_parts : (e : Ex) → seen_loosely e ≡ and_then (comp_word e) (λ p. if forgets_repeats p.mark p.fun
    then and_then (at_first_open p.gens) (λ t. option_map (λ hs. fun1 p.mark p.fun (comp_ex p.body (append_gens t.before hs)))
    (loose_source t.after)) else None)
loosely_by_parts (fun1 m f (comp_ex e gs)) = refl
loosely_by_parts e = refl

pub source_by_parts : (gs : Gens) → loose_source gs
    ≡ and_then (from_parts gs) (λ q. option_map (λ t. from q.0 t q.2) (made_set_of q.1))
source_by_parts (from p (fun1 false Fun.ToSet t) hs) = refl
source_by_parts gs = refl

-- A word with its operands, and a sign with its.
pub word_listed : (m : Bool) (f : Fun) (es : Exs) → listed_plainly (node_ex m (word f) es) ≡ and_then (only_operand es)
    (λ t. if (is_fold f || is_of_list f) && is_placed t then Some (fun1 m f (plain_list t)) else None)
word_listed true f (more_exs t no_exs) = refl
word_listed false f (more_exs t no_exs) = refl
word_listed true f es = refl
word_listed false f es = refl

pub pair_listed : (o : Op2) (es : Exs) → listed_plainly (node_ex true (binary o) es) ≡ and_then (both_operands es)
    (λ q. if is_lex o && (is_placed q.0 || is_placed q.1) then Some (ex2 true o (plain_list q.0) (plain_list q.1)) else None)
pair_listed o (more_exs a (more_exs b no_exs)) = refl
pair_listed o es = refl
