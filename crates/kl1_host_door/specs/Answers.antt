-- The bytes of answers.
use Rattle.std.specs.Prelude.{ℕ, Bool, if◌then◌else◌, List, [], ◌∷◌, ◌++◌, length, codes, decimal}
use Rattle.kl1_host_door.specs.declared.answer.Content.{Content}
use Rattle.kl1_host_door.specs.declared.answer.Content.TheVariants as content
use Rattle.kl1_host_door.specs.declared.answer.Cookie.{Cookie}
use Rattle.kl1_host_door.specs.declared.answer.Cookie.TheVariants as cookie
use Rattle.kl1_host_door.specs.declared.answer.Answer.{Answer}
use Rattle.kl1_host_door.specs.Statuses.{text_of}

-- the end of a line
abbrev pub line_end : List ℕ
line_end = 13 ∷ 10 ∷ []

-- what a browser is told the bytes are
abbrev pub kind_of : Content → List ℕ
kind_of content.Html = codes "text/html; charset=utf-8"
kind_of content.Css = codes "text/css; charset=utf-8"
kind_of content.Script = codes "text/javascript; charset=utf-8"
kind_of content.Json = codes "application/json"
kind_of content.Text = codes "text/plain; charset=utf-8"

-- what each answer says: that no page of another host may use it, and that nothing comes from another host
abbrev pub guards : List ℕ
guards =
    line_end
    ++ codes "content-security-policy: default-src 'none'; script-src 'self'; style-src 'self'; connect-src 'self'; img-src data:; base-uri 'none'; form-action 'none'; frame-ancestors 'none'"
    ++ line_end ++ codes "x-content-type-options: nosniff" ++ line_end ++ codes "referrer-policy: no-referrer" ++ line_end
    ++ codes "cache-control: no-store" ++ line_end

-- how the line begins by which a browser is told of its cookie, by whether its page came by https
abbrev pub cookie_front : Bool → List ℕ
cookie_front secure = if secure then codes "set-cookie: __Host-kl1=" else codes "set-cookie: kl1="

-- how it ends: no script may read the cookie, no request from the page of another host carries it, and it is for all of this host's page; and if
-- that came by https, it goes by https alone
abbrev pub cookie_end : Bool → List ℕ
cookie_end secure = (if secure then codes "; Secure; HttpOnly; SameSite=Strict; Path=/" else codes "; HttpOnly; SameSite=Strict; Path=/") ++ line_end

-- what a browser is told of the cookie of its session
abbrev pub cookie_text : Bool → Cookie → List ℕ
cookie_text secure cookie.Kept = []
cookie_text secure (cookie.Set id) = cookie_front secure ++ id ++ cookie_end secure
cookie_text secure cookie.Cleared = cookie_front secure ++ codes "; Max-Age=0" ++ cookie_end secure

-- whether the connection goes on, as it is told in the last line of a head
abbrev pub connection_of : Bool → List ℕ
connection_of goes_on = (if goes_on then codes "connection: keep-alive" else codes "connection: close") ++ line_end ++ line_end

-- the head of an answer up to its last line
abbrev pub head_text : Answer → Bool → List ℕ
head_text a secure =
    codes "HTTP/1.1 " ++ text_of a.status ++ (line_end ++ codes "content-type: ") ++ kind_of a.content
    ++ (line_end ++ codes "content-length: ") ++ decimal (length a.body.items) ++ guards ++ cookie_text secure a.cookie

-- an answer, by whether the browser's page came by https, and whether the connection goes on
abbrev pub answer_text : Answer → Bool → Bool → List ℕ
answer_text a secure goes_on = head_text a secure ++ connection_of goes_on ++ a.body.items
