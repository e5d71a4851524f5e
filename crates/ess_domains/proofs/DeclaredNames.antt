-- What statements declare, asked statement by statement.
use Rattle.std.proofs.Common.{◌≡◌, refl, ap, ◌∙◌, ◌||◌, List, [], ◌∷◌, map}
use Rattle.std.specs.List.{list_any}
use Rattle.ess_semantics.specs.Lists.{append_all}
use Rattle.ess_semantics.specs.Values.{Text}
use Rattle.ess_semantics.specs.Names.{is_among}
use Rattle.ess_semantics.specs.Trees as pure
use Rattle.ess_semantics.specs.Judgements.{declares}
use Rattle.ess_semantics.specs.Parameters.{given_of, given_enum_of, givens, given_enums, all_declared}
use Rattle.ess_semantics.specs.Solutions.{find_of, finds}
use Rattle.ess_core.specs.declared.statements.Stm.{Stm}
use Rattle.ess_core.specs.StatementViews.{pure_stm}
use Rattle.ess_domains.proofs.Givens.{is_among-append}

among_stms : (f : pure.Stm → List Text) (stms : List Stm) (x : Text) → is_among (append_all (map f (map pure_stm stms))) x ≡ list_any (λ s. is_among (f (pure_stm s)) x) stms
among_stms f [] x = refl
among_stms f (s ∷ ss) x =
    is_among-append (f (pure_stm s)) (append_all (map f (map pure_stm ss))) x ∙ ap (λ b. is_among (f (pure_stm s)) x || b) (among_stms f ss x)

-- The givens.
pub givens_any : (stms : List Stm) (x : Text) → is_among (givens (map pure_stm stms)) x ≡ list_any (λ s. is_among (given_of (pure_stm s)) x) stms
givens_any = among_stms given_of

-- The given types.
pub given_enums_any : (stms : List Stm) (x : Text) → is_among (given_enums (map pure_stm stms)) x ≡ list_any (λ s. is_among (given_enum_of (pure_stm s)) x) stms
given_enums_any = among_stms given_enum_of

-- The finds.
pub finds_any : (stms : List Stm) (x : Text) → is_among (finds (map pure_stm stms)) x ≡ list_any (λ s. is_among (find_of (pure_stm s)) x) stms
finds_any = among_stms find_of

-- All names.
pub declared_any : (stms : List Stm) (x : Text) → is_among (all_declared (map pure_stm stms)) x ≡ list_any (λ s. is_among (declares (pure_stm s)) x) stms
declared_any = among_stms declares
