-- The words that begin statements.
use Rattle.ess_grammar.specs.Words.{Word, given_word, find_word, letting_word, where_word, such_word, minimising_word, maximising_word}
use Rattle.eprime_read.specs.declared.openings.Opening.{Opening}

-- The word.
abbrev pub word_of : Opening → Word
word_of Opening.Given = given_word
word_of Opening.Find = find_word
word_of Opening.Letting = letting_word
word_of Opening.Where = where_word
word_of Opening.Such = such_word
word_of Opening.Minimising = minimising_word
word_of Opening.Maximising = maximising_word
