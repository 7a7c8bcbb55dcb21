-- The texts of some strings, as Python writes them: `json.dumps(b.decode("utf-8", "surrogateescape"), ensure_ascii=False)`, with each lone
-- surrogate as `\udcXX`.
use Rattle.std.specs.Prelude.{◌≡◌, [], ◌∷◌}
use Rattle.bq_package_values.specs.JsonString.{json_string}

-- each of these strings has the text that stands above it
pub record Examples : Type 0 where
  -- b'': ""
  pub empty : json_string [] ≡ 34 ∷ 34 ∷ []
  -- b'app/BUILD': "app/BUILD"
  pub plain : json_string (97 ∷ 112 ∷ 112 ∷ 47 ∷ 66 ∷ 85 ∷ 73 ∷ 76 ∷ 68 ∷ []) ≡ 34 ∷ 97 ∷ 112 ∷ 112 ∷ 47 ∷ 66 ∷ 85 ∷ 73 ∷ 76 ∷ 68 ∷ 34 ∷ []
  -- b'a"b\\c/': "a\"b\\c/"
  pub quotes : json_string (97 ∷ 34 ∷ 98 ∷ 92 ∷ 99 ∷ 47 ∷ []) ≡ 34 ∷ 97 ∷ 92 ∷ 34 ∷ 98 ∷ 92 ∷ 92 ∷ 99 ∷ 47 ∷ 34 ∷ []
  -- b'\x00\x08\t\n\x0b\x0c\r\x1f\x7f': "\u0000\b\t\n\u000b\f\r\u001f\x7f"
  pub controls : json_string (0 ∷ 8 ∷ 9 ∷ 10 ∷ 11 ∷ 12 ∷ 13 ∷ 31 ∷ 127 ∷ [])
      ≡ 34 ∷ 92 ∷ 117 ∷ 48 ∷ 48 ∷ 48 ∷ 48 ∷ 92 ∷ 98 ∷ 92 ∷ 116 ∷ 92 ∷ 110 ∷ 92 ∷ 117 ∷ 48 ∷ 48 ∷ 48 ∷ 98 ∷ 92 ∷ 102 ∷ 92 ∷ 114 ∷ 92 ∷
      117 ∷ 48 ∷ 48 ∷ 49 ∷ 102 ∷ 127 ∷ 34 ∷ []
  -- b'\xc3\xa9\xe2\x82\xac\xf0\x9f\x98\x80': "é€😀"
  pub characters : json_string (195 ∷ 169 ∷ 226 ∷ 130 ∷ 172 ∷ 240 ∷ 159 ∷ 152 ∷ 128 ∷ [])
      ≡ 34 ∷ 195 ∷ 169 ∷ 226 ∷ 130 ∷ 172 ∷ 240 ∷ 159 ∷ 152 ∷ 128 ∷ 34 ∷ []
  -- b'\xff\xc3(\xed\xa0\x80\xf0\x9f\x98': "\udcff\udcc3(\udced\udca0\udc80\udcf0\udc9f\udc98"
  pub broken : json_string (255 ∷ 195 ∷ 40 ∷ 237 ∷ 160 ∷ 128 ∷ 240 ∷ 159 ∷ 152 ∷ [])
      ≡ 34 ∷ 92 ∷ 117 ∷ 100 ∷ 99 ∷ 102 ∷ 102 ∷ 92 ∷ 117 ∷ 100 ∷ 99 ∷ 99 ∷ 51 ∷ 40 ∷ 92 ∷ 117 ∷ 100 ∷ 99 ∷ 101 ∷ 100 ∷ 92 ∷ 117 ∷ 100 ∷
      99 ∷ 97 ∷ 48 ∷ 92 ∷ 117 ∷ 100 ∷ 99 ∷ 56 ∷ 48 ∷ 92 ∷ 117 ∷ 100 ∷ 99 ∷ 102 ∷ 48 ∷ 92 ∷ 117 ∷ 100 ∷ 99 ∷ 57 ∷ 102 ∷ 92 ∷ 117 ∷ 100 ∷
      99 ∷ 57 ∷ 56 ∷ 34 ∷ []
