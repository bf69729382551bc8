-- What the calls on tables answer, for all arguments. Assumes nothing: these are definitions.
use Rattle.std.specs.Prelude.{ℕ, ◌+◌, ◌&&◌, List, leb}
use Rattle.semigroups.specs.Lists.{run, keep}
use Rattle.semigroups.specs.Words.{genus, conductor, child_word}
use Rattle.semigroups.specs.Elements.{generator}
use Rattle.seeds.specs.Seeds.{first_row_ones, seed_table}
use Rattle.seeds.specs.Grandchildren.{grandchild_count}
use Rattle.answers.specs.Answers.{Answer, refused, given, is_given, ask}
use Rattle.words.specs.Looks.{ask_word}
use Rattle.nodes.specs.Nodes.{node_of}
use Rattle.nodes.specs.declared.Node.{Node}
use Rattle.tables.specs.declared.Table.{Table}

-- the node of a word: questions 1 and 2
unfoldable pub node_answer : ℕ → Answer Node
node_answer w = ask_word refused w (given (node_of w))

-- the seed table of a word with the number of 1s in its row 0, at genus 32 too: questions 1 and 2
unfoldable pub table_of : ℕ → Answer Table
table_of w = ask_word refused w (given record { table = seed_table w; generators = first_row_ones w })

-- the word without the element e: questions 1, 2, 3 and 5
unfoldable pub child_of : ℕ → ℕ → Answer ℕ
child_of w e =
    ask_word refused w (ask (leb (genus w + 1) 32) (refused 3) (ask (leb (conductor w) e && generator w e) (refused 5) (given (child_word w e))))

-- the elements below n at which the child call gives a word
unfoldable pub child_elements : ℕ → ℕ → List ℕ
child_elements w n = keep (λ e. is_given (child_of w e)) (run 0 n)

-- the number of grandchildren of a word, of genus 31 and 32 too: questions 1 and 2
unfoldable pub grandchildren_of : ℕ → Answer ℕ
grandchildren_of w = ask_word refused w (given (grandchild_count w))
