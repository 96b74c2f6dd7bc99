-- The files of the page.
use Rattle.std.specs.Prelude.{ℕ, if◌then◌else◌, List, bytes_eq, codes, Option, Some, None}
use Rattle.kl1_host_door.specs.declared.answer.Content.{Content}
use Rattle.kl1_host_door.specs.declared.answer.Content.TheVariants.{Html, Css, Script}
use Rattle.kl1_host_page.specs.declared.api_js.TheConstants as api_js
use Rattle.kl1_host_page.specs.declared.dom_js.TheConstants as dom_js
use Rattle.kl1_host_page.specs.declared.editor_js.TheConstants as editor_js
use Rattle.kl1_host_page.specs.declared.files.PageFile.{PageFile}
use Rattle.kl1_host_page.specs.declared.index_html.TheConstants as index_html
use Rattle.kl1_host_page.specs.declared.page_css.TheConstants as page_css
use Rattle.kl1_host_page.specs.declared.page_js.TheConstants as page_js
use Rattle.kl1_host_page.specs.declared.shoens_js.TheConstants as shoens_js
use Rattle.kl1_host_page.specs.declared.waits_js.TheConstants as waits_js

-- what the bytes of a file are, and its bytes
abbrev pub file_view : PageFile → Content × List ℕ
file_view file = (file.content, file.text.now)

-- the file at a path: what its bytes are, and its bytes
unfoldable pub file_at : List ℕ → Option (Content × List ℕ)
file_at path =
    if bytes_eq path (codes "/") then Some (Html, index_html.TEXT.now)
    else if bytes_eq path (codes "/page.css") then Some (Css, page_css.TEXT.now)
    else if bytes_eq path (codes "/page.js") then Some (Script, page_js.TEXT.now)
    else if bytes_eq path (codes "/api.js") then Some (Script, api_js.TEXT.now)
    else if bytes_eq path (codes "/dom.js") then Some (Script, dom_js.TEXT.now)
    else if bytes_eq path (codes "/shoens.js") then Some (Script, shoens_js.TEXT.now)
    else if bytes_eq path (codes "/waits.js") then Some (Script, waits_js.TEXT.now)
    else if bytes_eq path (codes "/editor.js") then Some (Script, editor_js.TEXT.now)
    else None
