use Rattle.ess_print_laws.proofs.laws.texts_stand_first.Goals as goal
use Rattle.ess_print_laws.specs.Expressions.{ex_pieces, dom_pieces}
use Rattle.ess_print_laws.specs.Statements.{stm_pieces, repr_pieces}
use Rattle.ess_print_laws.proofs.Appended.{text-behind, ex-appends, dom-appends, stm-appends, repr-appends}

pub returns : goal.returns
returns c =
    record {
      expressions = λ e us. text-behind (ex_pieces e) (ex-appends e) us;
      domains = λ d us. text-behind (dom_pieces d) (dom-appends d) us;
      statements = λ s us. text-behind (stm_pieces s) (stm-appends s) us;
      representations = λ r us. text-behind (repr_pieces r) (repr-appends r) us;
    }
