-- What a function that writes on does to a page. Assumes nothing.
use Rattle.std.specs.Prelude.{◌≡◌, List, ℕ, ◌+◌, ◌≤◌, length}
use Rattle.page_text.specs.declared.Page.{Page}
use Rattle.page_text.specs.Text.{Puts}

-- its buffer has room for so many bytes more
abbrev pub HasRoom : ℕ → Page → Type 0
HasRoom most page = page.at + most ≤ length page.buffer.now

-- a part of at most so many bytes was put into it, and it goes on in the same buffer
pub record Adds (part : List ℕ) (most : ℕ) (before after : Page) : Type 0 where
  pub same_buffer : after.buffer.ghost_name ≡ before.buffer.ghost_name
  pub same_length : length after.buffer.now ≡ length before.buffer.now
  pub puts : Puts part most before.at after.at before.buffer.now after.buffer.now
