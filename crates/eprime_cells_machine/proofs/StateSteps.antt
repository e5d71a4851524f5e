-- Steps of the code as steps of the machine.
use Rattle.std.proofs.Common.{◌≡◌, refl, sym, ap, ◌∙◌, List, [], ◌∷◌, ◌++◌, append-nil, append_assoc, map, Option, Some, None, Ok, Err, IfOk}
use Rattle.std.specs.declared.result.Result.{Result}
use Rattle.std.specs.Option.{option_map}
use Rattle.ess_rows.specs.declared.memory.NoMemory.{NoMemory}
use Rattle.std.proofs.lemmas.List.{map-append}
use Rattle.ess_semantics.specs.Values.{Text}
use Rattle.ess_semantics.specs.Names.{Names}
use Rattle.ess_semantics.specs.Trees.{Ends, one_value, Ex}
use Rattle.ess_grammar.specs.declared.kind.Kind.{Kind}
use Rattle.ess_grammar.specs.Kinds.{token}
use Rattle.ess_grammar.specs.Words.{symbol, close_square}
use Rattle.eprime_read_cells_laws.specs.CellMachine.{step_behind_range, step_low_read, step_value_wanted, step_first_wanted, step_item_read, step_close, with_value}
use Rattle.eprime_cells_machine.specs.declared.values.CellRange.{CellRange}
use Rattle.eprime_cells_machine.specs.declared.values.CellValue.{CellValue}
use Rattle.eprime_cells_machine.specs.declared.values.Number.{Number}
use Rattle.eprime_cells_machine.specs.declared.stages.Stage.{Stage}
use Rattle.eprime_cells_machine.specs.declared.stages.State.{State}
use Rattle.eprime_cells_machine.specs.ValueViews.{ends_of, bounds_of, all_ends, all_bounds, list_of, pure_number, pure_value}
use Rattle.eprime_cells_machine.specs.MachineViews.{lists_onto, view_lists, view_state, in_stage, closed}

-- `]` behind an item closes the innermost list without an index domain,
pub item_closed : (cs : Names Ex) (a : Text) (fs : List (List Ex)) → step_item_read (symbol close_square) cs a fs ≡ closed cs a fs None
item_closed cs a [] = refl
item_closed cs a (es ∷ fs) = refl

-- and behind ranges with them.
pub ranges_closed : (cs : Names Ex) (a : Text) (fs : List (List Ex)) (rs : List CellRange) → step_close (symbol close_square) cs a fs (all_ends rs) (all_bounds rs) ≡ closed cs a fs (Some rs)
ranges_closed cs a [] rs = refl
ranges_closed cs a (es ∷ fs) rs = refl

-- A list that is opened.
pub lists_push : (ls : List (List CellValue)) (l : List CellValue) (acc : List (List Ex)) → lists_onto (ls ++ l ∷ []) acc ≡ map pure_value l ∷ lists_onto ls acc
lists_push [] l acc = refl
lists_push (k ∷ ls) l acc = lists_push ls l (map pure_value k ∷ acc)

-- A value put behind the items of the innermost list.
pub item_put : (cs : Names Ex) (a : Text) (old ls new : List (List CellValue)) (l k : List CellValue) (v : CellValue) → old ≡ ls ++ l ∷ [] → k ≡ l ++ v ∷ [] → new ≡ ls ++ k ∷ [] →
    with_value cs a (view_lists old) (pure_value v) ≡ Some (in_stage cs a (view_lists new) Stage.ItemRead)
item_put cs a old ls new l k v o i n =
    ap (λ fs. with_value cs a fs (pure_value v)) (ap view_lists o ∙ lists_push ls l [])
    ∙ ap (λ es. Some (in_stage cs a (es ∷ view_lists ls) Stage.ItemRead)) (sym (ap (map pure_value) i ∙ map-append pure_value l (v ∷ [])))
    ∙ ap (λ fs. Some (in_stage cs a fs Stage.ItemRead)) (sym (ap view_lists n ∙ lists_push ls k []))

-- The innermost list closed.
pub closed_last : (cs : Names Ex) (a : Text) (old ls : List (List CellValue)) (l : List CellValue) (o : Option (List CellRange)) (v : CellValue) → old ≡ ls ++ l ∷ [] → pure_value v ≡ list_of (map pure_value l) o →
    closed cs a (view_lists old) o ≡ with_value cs a (view_lists ls) (pure_value v)
closed_last cs a old ls l o v h i =
    ap (λ fs. closed cs a fs o) (ap view_lists h ∙ lists_push ls l []) ∙ ap (λ e. with_value cs a (view_lists ls) e) (sym i)

-- One more range.
pub ends_push : (rs : List CellRange) (r : CellRange) → all_ends (rs ++ r ∷ []) ≡ all_ends rs ++ ends_of r ∷ []
ends_push rs r = map-append ends_of rs (r ∷ [])

pub bounds_push : (rs : List CellRange) (r : CellRange) → all_bounds (rs ++ r ∷ []) ≡ all_bounds rs ++ bounds_of r
bounds_push [] r = append-nil (bounds_of r)
bounds_push (s ∷ rs) r = ap (λ es. bounds_of s ++ es) (bounds_push rs r) ∙ sym (append_assoc (bounds_of s) (all_bounds rs) (bounds_of r))

-- ---- tokens of any kind but one

-- Behind the first number of a range stands `..`, or the range has one number.
pub low_other : (k : Kind) (bytes a : Text) (cs : Names Ex) (fs : List (List Ex)) (rs new : List CellRange) (low : Number) → (k ≡ Kind.Dots → ⊥) → all_ends new ≡ all_ends rs ++ one_value ∷ [] →
    all_bounds new ≡ all_bounds rs ++ pure_number low ∷ [] → step_low_read (token k bytes) cs a fs (all_ends rs) (all_bounds rs) (pure_number low) ≡ step_behind_range (token k bytes) cs a fs (all_ends new) (all_bounds new)
low_other k bytes a cs fs rs new low h i j =
    behind_low k bytes a cs fs (all_ends rs) (all_bounds rs) (pure_number low) h
    ∙ ap (λ qs. step_behind_range (token k bytes) cs a fs qs (all_bounds rs ++ pure_number low ∷ [])) (sym i)
    ∙ ap (λ es. step_behind_range (token k bytes) cs a fs (all_ends new) es) (sym j)
  where
    behind_low : (k : Kind) (bytes a : Text) (cs : Names Ex) (fs : List (List Ex)) (rs : List Ends) (is : List Ex) (low : Ex) → (k ≡ Kind.Dots → ⊥) →
        step_low_read (token k bytes) cs a fs rs is low ≡ step_behind_range (token k bytes) cs a fs (rs ++ one_value ∷ []) (is ++ low ∷ [])
    behind_low Kind.Dots bytes a cs fs rs is low h = absurd (h refl)
    behind_low k bytes a cs fs rs is low h = refl

-- Behind `[` stands `]`, or the first token of a value.
first_other : (k : Kind) (bytes a : Text) (cs : Names Ex) (fs : List (List Ex)) → (k ≡ Kind.CloseSquare → ⊥) → step_first_wanted (token k bytes) cs a fs ≡ step_value_wanted (token k bytes) cs a ([] ∷ fs)
first_other Kind.CloseSquare bytes a cs fs h = absurd (h refl)
first_other k bytes a cs fs h = refl

pub first_answer : (r : Result (Option State) NoMemory) (k : Kind) (a : Text) (cs : Names Ex) (fs : List (List Ex)) → (k ≡ Kind.CloseSquare → ⊥) →
    IfOk r (λ next. (bytes : Text) → step_value_wanted (token k bytes) cs a ([] ∷ fs) ≡ option_map view_state next) → IfOk r (λ next. (bytes : Text) → step_first_wanted (token k bytes) cs a fs ≡ option_map view_state next)
first_answer (Ok next) k a cs fs h x = λ bytes. first_other k bytes a cs fs h ∙ x bytes
first_answer (Err why) k a cs fs h x = tt
