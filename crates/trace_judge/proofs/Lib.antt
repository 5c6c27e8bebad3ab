mod SampleLines
