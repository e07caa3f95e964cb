pub mod RaisedLaws
