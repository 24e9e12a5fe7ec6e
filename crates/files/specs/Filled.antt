-- How much of a file stands in a buffer.
use Rattle.std.specs.Prelude.{ℕ, length, true, List, ◌≡◌}
use Rattle.files.specs.declared.Loaded.{Loaded}
use Rattle.files.specs.Counts.{IsPrefixLen}

-- as many bytes as are counted stand there, and a file with more than that fills the buffer
pub record Filled (l : Loaded) (buffer : List ℕ) : Type 0 where
  pub counts : IsPrefixLen l.len buffer
  pub full : l.more ≡ true → l.len ≡ length buffer
