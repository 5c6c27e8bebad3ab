-- Words, without where they lie in memory.
use Rattle.vcd_read.specs.declared.words.Word.{Word as Found}
use Rattle.vcd_read.specs.Words.{Word}

-- the word that was found
abbrev pub word_of : Found → Word
word_of found = record { at = found.at; bytes = found.bytes.now }
