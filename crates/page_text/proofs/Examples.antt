-- The definitions on examples.
use mathlib.Core.Path.{◌≡◌, refl}
use mathlib.Core.List.{◌++◌, flat_map}
use Rattle.page_text.specs.Text.{text}
use Rattle.page_text.specs.Escape.{escaped_byte, escaped}
use Rattle.page_text.specs.Numbers.{decimal, hex_digit, hex_byte, hex_code}

names : escaped (text "a<b> & \"c\" 'd'") ≡ text "a&lt;b&gt; &amp; &quot;c&quot; &#39;d&#39;"
unfolding text escaped_byte escaped flat_map
names = refl

decimals : decimal 0 ++ decimal 9 ++ decimal 10 ++ decimal 105 ++ decimal 6400 ++ decimal 65535
    ≡ text "0910105640065535"
unfolding text decimal
decimals = refl

hexadecimals : hex_byte 0xAF ++ hex_code 2577 ++ hex_code 0xFFFFFF ≡ text "AFh000A11hFFFFFFh"
unfolding text hex_digit hex_byte hex_code
hexadecimals = refl
